use Rattle.std.proofs.Common.{ap, ◌∙◌}
use Rattle.guard_tables.specs.TableNodes.{Spot}
use Rattle.guard_tables.proofs.new_nodes.simple_node.Goals as goal

pub returns-clause-node : goal.returns-clause-node
returns-clause-node c = λ spots k. c.with_plain.ensures.node spots k (c.asking_node.ensures.node spots k)

pub returns-clause-plan : goal.returns-clause-plan
returns-clause-plan c = λ spots. ap (λ (s : Spot). s.plan) (c.with_plain.ensures.spot spots) ∙ c.asking_node.ensures.plan spots
