use Rattle.std.proofs.Common.{◌≡◌, ℕ, ◌++◌, List, length, map, drop, sym, ap, subst, ◌∙◌, arith}
use Rattle.std.specs.Prelude.{All}
use Rattle.std.specs.Option.{option_or}
use Rattle.guard_names.specs.Declarations.{definitions, defined_in}
use Rattle.guard_names.specs.NamesView.{order_of}
use Rattle.guard_syntax.specs.ModuleViews.{module_view}
use Rattle.guard_schema.specs.Entries.{Entry, entries_from, first_named}
use Rattle.guard_schema.specs.Views.{entry_view, type_place}
use Rattle.guard_schema.specs.declared.build.NamedDefinition.{NamedDefinition}
use Rattle.guard_schema.proofs.ByNames.Definitions.{next_module, last_module, module_entries, module_from, module_homes}
use Rattle.guard_schema.proofs.ByNames.Lookups.{first_append}
use Rattle.guard_schema.proofs.build.index_of.Goals as goal

pub loop-module-init : goal.loop-module-init
loop-module-init c =
    let place = type_place (order_of c.args.names.now) c.args.values.now in
    record {
      gathered = ap (λ (xs : List NamedDefinition). map entry_view xs ++ entries_from place (length xs)
          (definitions (map module_view c.args.modules.now))) c.new-all.ensures.items;
      found = λ home name. c.new-index.ensures home name
          ∙ sym (ap (λ (xs : List NamedDefinition). first_named home name (map entry_view xs)) c.new-all.ensures.items);
    }

pub split_at-requires : goal.split_at-requires
split_at-requires c =
    let place = type_place (order_of c.args.names.now) c.args.values.now in
    let number : c.len-first.result ≡ length c.loop-module.all.items =
    omega (arith, c.len-first.ensures, c.loop-module.all.ok.0) in
    rw c.deref.ensures.value (module_from place c.loop-module.all.items c.in_ok-all.all.items
    (module_view c.module-item.result) c.in_ok-all.ensures c.len-first.result number)

pub with-requires : goal.with-requires
with-requires c =
    let place = type_place (order_of c.args.names.now) c.args.values.now in
    let number : c.len-first.result ≡ length c.loop-module.all.items =
    omega (arith, c.len-first.ensures, c.loop-module.all.ok.0) in
    subst (λ (xs : List NamedDefinition). All (λ d. d.home.now ≡ c.module-item.result.name.now) xs)
    (sym (c.split_at.ensures.back ∙ ap (drop c.len-first.result) c.deref.ensures.value))
    (module_homes place c.loop-module.all.items c.in_ok-all.all.items (module_view c.module-item.result)
    c.in_ok-all.ensures c.len-first.result number)

pub loop-module-preserved : goal.loop-module-preserved
loop-module-preserved c =
    let place = type_place (order_of c.args.names.now) c.args.values.now in
    let number : c.len-first.result ≡ length c.loop-module.all.items =
    omega (arith, c.len-first.ensures, c.loop-module.all.ok.0) in
    let old = map entry_view c.loop-module.all.items in
    let more = entries_from place (length c.loop-module.all.items) (defined_in (module_view c.module-item.result)) in
    let own : map entry_view c.split_at.result.1.now ≡ more =
    ap (map entry_view) (c.split_at.ensures.back ∙ ap (drop c.len-first.result) c.deref.ensures.value)
    ∙ module_entries place c.loop-module.all.items c.in_ok-all.all.items (module_view c.module-item.result)
    c.in_ok-all.ensures c.len-first.result number in
    record {
      gathered = next_module place (entries_from place 0 (definitions (map module_view c.args.modules.now)))
          c.args.modules.now c.loop-module.module-index c.loop-module.all.items c.loop-module.invariant.gathered _
          c.module-item.result c.loop-module-test.true c.module-item.is c.in_ok-all.ensures;
      found = λ home name. c.in_ok-index.ensures home name
          ∙ ap (λ o. option_or o (first_named home name (map entry_view c.split_at.result.1.now)))
          (c.loop-module.invariant.found home name)
          ∙ ap (λ (es : List Entry). option_or (first_named home name old) (first_named home name es)) own
          ∙ sym (first_append home name old more)
          ∙ ap (first_named home name) (sym c.in_ok-all.ensures);
    }

pub returns : goal.returns
returns c = λ home name.
    let place = type_place (order_of c.args.names.now) c.args.values.now in
    c.loop-module.invariant.found home name
    ∙ ap (first_named home name)
    (last_module place (entries_from place 0 (definitions (map module_view c.args.modules.now))) c.args.modules.now
    c.loop-module.module-index c.loop-module.all.items c.loop-module.invariant.gathered c.loop-module-test.false)
