use Rattle.guard_tables.proofs.Spots.{node_at}
use Rattle.guard_reader.proofs.NodeSteps.{over_plain}
use Rattle.guard_reader.proofs.plain.after_one_plain.Goals as goal

pub returns : goal.returns
returns c = λ m.
    let n = node_at c.args.table.now c.args.at c.index-node.result.now c.requires c.index-node.ensures in
    over_plain c.args.table.now c.args.at c.index-node.result.now c.args.octets.now c.plain_size-size.result m n c.plain_size-size.ensures.one c.plain_size-size.ensures.two c.plain_size-size.ensures.other c.if-size-eq0.false
