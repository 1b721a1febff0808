use Rattle.std.proofs.Common.{ap, ◌∙◌}
use Rattle.guard_tables.specs.NodeViews.{absence_of}
use Rattle.guard_tables.specs.declared.slots.Slots.{Slots}
use Rattle.guard_tables.proofs.Comings.{sided, sided_spot}
use Rattle.guard_tables.proofs.new_nodes.with_side.Goals as goal

pub returns-clause-node : goal.returns-clause-node
returns-clause-node c = λ spots k n. rw c.with_interval-node.ensures (sided c.args.node.hot c.args.node.cold c.need_of-node.result c.is_watched-node.result c.args.node.hot.low c.args.node.hot.high
    c.plain_interval.result.low c.plain_interval.result.high c.slots_of-node.result c.args.side.present c.args.side.default c.is_watched-node.ensures c.plain_interval.ensures spots k n)

pub returns-clause-spot : goal.returns-clause-spot
returns-clause-spot c = λ spots. rw c.with_interval-node.ensures (sided_spot c.args.node.hot c.args.node.cold c.need_of-node.result c.is_watched-node.result
    c.plain_interval.result.low c.plain_interval.result.high c.slots_of-node.result c.args.side.present c.args.side.default c.args.side.absent
    (ap (λ (m : Slots). absence_of c.need_of-node.result m) c.slots_of-node.ensures ∙ c.need_of-node.ensures) spots)
