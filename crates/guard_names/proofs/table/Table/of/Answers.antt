use Rattle.std.proofs.Common.{map, ap}
use Rattle.std.proofs.lemmas.List.Elements.{All-get_or}
use Rattle.guard_syntax.specs.ModuleViews.{module_view}
use Rattle.guard_names.specs.declared.fault.NameFault.TheVariants as fault
use Rattle.guard_names.specs.inside.Numbered.{IsNumbered}
use Rattle.guard_names.specs.inside.Reading.{refused_at}
use Rattle.guard_names.proofs.Declared.Keys.{more_origins, passes_new, is_duplicate, some_from_old, none_from_old}
use Rattle.guard_names.proofs.table.Table.of.Goals as goal

pub loop-declaration-preserved : goal.loop-declaration-preserved
loop-declaration-preserved c =
    let ms = map module_view c.args.modules.now in
    let absent = none_from_old c.in_ok-insert.field-0 _ c.in_ok-insert.ensures.old c.if-is_some.ensures in
    let own = All-get_or (IsNumbered ms) c.args.declarations.now c.loop-declaration.declaration-index _ c.loop-declaration-test.true c.requires.numbered in
    record {
      found = more_origins ms c.args.declarations.now c.loop-declaration.declaration-index _ c.loop-declaration-test.true own.0 c.key_of.result c.key_of.ensures.name c.key_of.ensures.scope
          c.loop-declaration.origins.entries c.insert.new.self.entries c.loop-declaration.invariant.found absent c.in_ok-insert.ensures.entries;
      rest = passes_new ms c.args.declarations.now c.loop-declaration.declaration-index _ c.loop-declaration-test.true own.0 c.key_of.result c.key_of.ensures.name c.key_of.ensures.scope
          c.loop-declaration.origins.entries c.loop-declaration.invariant.found absent _ c.loop-declaration.invariant.rest;
    }

pub returns-then-is_some-clause-refused : goal.returns-then-is_some-clause-refused
returns-then-is_some-clause-refused c =
    let ms = map module_view c.args.modules.now in
    let found = some_from_old c.in_ok-insert.field-0 _ c.in_ok-insert.ensures.old c.if-is_some.ensures in
    let own = All-get_or (IsNumbered ms) c.args.declarations.now c.loop-declaration.declaration-index _ c.loop-declaration-test.true c.requires.numbered in
    ap (refused_at (λ s. fault.Duplicate s))
    (is_duplicate ms c.args.declarations.now c.loop-declaration.declaration-index _ c.loop-declaration-test.true own.0 c.key_of.result c.key_of.ensures.name c.key_of.ensures.scope
    c.loop-declaration.origins.entries c.loop-declaration.invariant.found found _ c.loop-declaration.invariant.rest)
