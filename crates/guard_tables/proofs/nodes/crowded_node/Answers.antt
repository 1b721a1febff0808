use Rattle.std.proofs.Common.{◌∷◌, refl}
use Rattle.guard_model.specs.TypeView.{type_view}
use Rattle.guard_tables.specs.Tables.{types_view}
use Rattle.guard_tables.proofs.Crowding.{way_told}
use Rattle.guard_tables.proofs.nodes.crowded_node.Goals as goal

pub returns : goal.returns
returns c = way_told (type_view c.args.declared.now ∷ types_view c.args.rules.now) (type_view c.args.declared.now) _ refl c.crowded_from.result c.crowded_from.ensures
