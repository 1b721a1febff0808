use Rattle.std.proofs.Common.{◌∙◌, arith, length-drop, length-take, length, drop, ◌-◌}
use Rattle.guard_tables.proofs.Spots.{node_at}
use Rattle.guard_reader.proofs.NodeSteps.{over_plain}
use Rattle.guard_reader.proofs.plain.after_plain.Goals as goal

pub loop-node-preserved : goal.loop-node-preserved
loop-node-preserved c =
    let n = node_at c.args.table.now c.args.at c.index-node.result.now c.requires c.index-node.ensures in
    let os = c.loop-node.rest.now in
    record {
      shorter = omega (arith, c.loop-node.invariant.shorter, length-drop c.plain_size-size.result os, length-take (length os - c.plain_size-size.result) (drop c.plain_size-size.result os));
      same = λ m. over_plain c.args.table.now c.args.at c.index-node.result.now os c.plain_size-size.result m n c.plain_size-size.ensures.one c.plain_size-size.ensures.two c.plain_size-size.ensures.other c.if-size-eq0.false ∙ c.loop-node.invariant.same m;
    }
