use Rattle.std.proofs.Common.{map, option_map}
use Rattle.guard_model.specs.TypeView.{component_view, components_of}
use Rattle.guard_model.specs.ValueView.{fields_view}
use Rattle.guard_values.specs.Views.{located_view}
use Rattle.guard_values.proofs.Braces.ProperComponents.{placed_proper}
use Rattle.guard_values.proofs.components.place_of.Goals as goal

pub returns-clause-proper : goal.returns-clause-proper
returns-clause-proper c =
    placed_proper c.placed.result c.args.ordered c.args.next (fields_view c.args.fields.now) c.args.site (components_of (map component_view c.args.comps.now)) c.in-Some.name.now (option_map located_view c.located.result) c.requires.proper c.located.ensures.found c.placed.ensures.given
