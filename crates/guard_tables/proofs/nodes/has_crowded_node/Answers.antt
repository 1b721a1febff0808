use Rattle.std.proofs.Common.{◌∷◌, ◌∙◌}
use Rattle.guard_model.specs.TypeView.{type_view}
use Rattle.guard_tables.specs.Tables.{types_view}
use Rattle.guard_tables.proofs.Crowding.{has_told}
use Rattle.guard_tables.proofs.nodes.has_crowded_node.Goals as goal

pub returns : goal.returns
returns c = c.is_some.ensures ∙ has_told (type_view c.args.declared.now ∷ types_view c.args.rules.now) (type_view c.args.declared.now) c.in_ok-found.found c.in_ok-found.ensures
