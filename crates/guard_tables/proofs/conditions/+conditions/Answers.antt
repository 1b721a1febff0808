use Rattle.std.proofs.Common.{sym, ap, ◌∙◌}
use Rattle.guard_model.proofs.Components.{in_view, found_there, found_nowhere}
use Rattle.guard_tables.specs.Conditions.{counted}
use Rattle.guard_tables.proofs.Counts.{of_found, component_found}
use Rattle.guard_tables.proofs.conditions.+conditions.Goals as goal

pub of_component-returns-in-Some : goal.of_component-returns-in-Some
of_component-returns-in-Some t c =
    let way = c.args.way.now in
    c.of_type.ensures
    ∙ sym (ap counted (component_found (in_view c.args.comps.now) c.args.place way ∙ ap (λ o. of_found o way) (found_there c.get.result c.args.comps.now c.args.place c.in-Some.comp c.get.ensures.lookup.3 c.in-Some.is)))

pub of_component-returns-in-None : goal.of_component-returns-in-None
of_component-returns-in-None t c =
    let way = c.args.way.now in
    sym (ap counted (component_found (in_view c.args.comps.now) c.args.place way ∙ ap (λ o. of_found o way) (found_nowhere c.get.result c.args.comps.now c.args.place c.get.ensures.lookup.3 c.in-None.is)))
