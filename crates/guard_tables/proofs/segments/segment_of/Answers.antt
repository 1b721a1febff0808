use Rattle.std.proofs.Common.{map}
use Rattle.guard_tables.specs.NodeViews.{condition_view}
use Rattle.guard_tables.proofs.NumberSegments.{made}
use Rattle.guard_tables.proofs.segments.segment_of.Goals as goal

pub returns-in-Some : goal.returns-in-Some
returns-in-Some c =
    made (map condition_view c.args.conditions.now) _ _ c.in-Some.failed c.in-Some.ensures.numbers (c.are_steady.ensures c.if-not-are_steady.false) c.in-Some.ensures.failed
