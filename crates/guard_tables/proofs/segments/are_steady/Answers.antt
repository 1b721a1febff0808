use Rattle.guard_tables.proofs.NumberSegments.{alike_more}
use Rattle.guard_tables.proofs.segments.are_steady.Goals as goal

pub loop-condition-preserved : goal.loop-condition-preserved
loop-condition-preserved c = λ z above below rest.
    c.loop-condition.invariant z above below
    (alike_more c.args.conditions.now c.loop-condition.condition-index c.condition-item.result z _ c.loop-condition-test.true c.condition-item.is
    (c.is_steady.ensures c.if-not-is_steady.false z above below) rest)
