use Rattle.std.proofs.Common.{refl, arith, vec_len}
use Rattle.std.specs.Prelude.{not}
use Rattle.guard_tables.proofs.Comings.{simple_comes, simple_stands, simple_cold}
use Rattle.guard_tables.proofs.LaidSteps.{told_so}
use Rattle.guard_tables.proofs.new_nodes.asking_node.Goals as goal

pub returns-clause-node : goal.returns-clause-node
returns-clause-node c = λ spots k. rw c.bare-node.ensures.hot
    (simple_comes c.args.kind c.args.tag c.identifiers_of.result c.identifiers_of.ensures.own c.identifiers_of.ensures.other (not c.is_empty-asked.result)
    (simple_cold c.bare-node.result.cold c.args.tag c.args.items c.args.conditions) c.bare-node.ensures.cold.default c.bare-node.ensures.cold.present (λ e. told_so c.args.conditions.list.items (vec_len c.args.conditions.list) c.is_empty-asked.result c.is_empty-asked.ensures (omega (arith, c.args.conditions.list.ok.0)) e) refl spots k).node

pub returns-clause-plan : goal.returns-clause-plan
returns-clause-plan c = λ spots. rw c.bare-node.ensures.hot
    (simple_stands c.args.kind c.args.tag c.identifiers_of.result (not c.is_empty-asked.result) (simple_cold c.bare-node.result.cold c.args.tag c.args.items c.args.conditions) refl spots)
