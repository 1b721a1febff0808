use Rattle.std.proofs.Common.{ℕ, ◌≤◌, List, length, map, refl, sym, ap, subst, ◌∙◌}
use Rattle.std.proofs.lemmas.List.{length-map}
use Rattle.std.specs.Prelude.{string_bytes}
use Rattle.guard_names.specs.Declarations.{definitions}
use Rattle.guard_names.specs.NamesView.{order_of}
use Rattle.guard_syntax.specs.ModuleViews.{module_view}
use Rattle.guard_syntax.specs.Trees.{WrittenModule}
use Rattle.guard_schema.specs.Entries.{entries_from}
use Rattle.guard_schema.specs.Schemas.{schema_of}
use Rattle.guard_schema.specs.Views.{built_in, type_place}
use Rattle.guard_schema.proofs.ByNames.Definitions.{schema_is}
use Rattle.guard_schema.proofs.ByNames.Lookups.{by_index}
use Rattle.guard_schema.proofs.build.with_names.Goals as goal

pub invariant_of-result-clause-few : goal.invariant_of-result-clause-few
invariant_of-result-clause-few c =
    let names = c.in_ok-modules.ensures in
    subst (λ (n : ℕ). n ≤ 64)
    (sym (ap (λ (xs : List (List ℕ)). length xs) names
    ∙ length-map (map module_view c.args.modules.now) (λ (m : WrittenModule). m.name))) c.requires.few

pub returns-clause-named : goal.returns-clause-named
returns-clause-named c =
    let ms = map module_view c.args.modules.now in
    let types = c.args.progress.known.types.items in
    let es = entries_from (type_place (order_of c.args.progress.names.now) c.args.progress.known.values.items) 0
    (definitions ms) in
    by_index types (map string_bytes c.in_ok-modules.modules.items) c.in_ok-index.index es
    (rw c.deref.ensures.value at c.in_ok-index.ensures)
    ∙ schema_is (order_of c.args.progress.names.now) types c.args.progress.known.values.items ms
    (map string_bytes c.in_ok-modules.modules.items) es c.in_ok-modules.ensures refl
    ∙ ap (λ (ms : List WrittenModule). schema_of
    (record { modules = ms; order = order_of c.args.progress.names.now; built = built_in c.args.progress }))
    (sym c.requires.modules)
