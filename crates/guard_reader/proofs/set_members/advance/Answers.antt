use Rattle.std.proofs.Common.{arith}
use Rattle.guard_reader.proofs.Ranks.{one_below}
use Rattle.guard_reader.proofs.set_members.advance.Goals as goal

pub loop-at-preserved : goal.loop-at-preserved
loop-at-preserved c = (
  omega (arith, c.loop-at-test.true),
  one_below c.args.table.now c.args.first c.loop-at.at c.args.floor c.loop-at.invariant.1 (c.is_below.ensures c.if-not-is_below.false),
)
