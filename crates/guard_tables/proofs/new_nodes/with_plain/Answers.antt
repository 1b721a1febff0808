use Rattle.guard_tables.proofs.Comings.{plained, plain_spot}
use Rattle.guard_tables.proofs.new_nodes.with_plain.Goals as goal

pub returns-clause-node : goal.returns-clause-node
returns-clause-node c = λ spots k n. rw c.with_interval.ensures (plained c.args.node.hot c.args.node.cold c.plain_interval-plain.result.low c.plain_interval-plain.result.high c.plain_interval-plain.ensures spots k n)

pub returns-clause-spot : goal.returns-clause-spot
returns-clause-spot c = λ spots. rw c.with_interval.ensures (plain_spot c.args.node.hot c.args.node.cold c.plain_interval-plain.result.low c.plain_interval-plain.result.high spots)
