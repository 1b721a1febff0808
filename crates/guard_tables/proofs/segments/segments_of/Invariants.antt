use Rattle.std.proofs.Common.{map}
use Rattle.guard_tables.specs.NodeViews.{condition_view}
use Rattle.guard_tables.specs.Segments.{AreSegments}
use Rattle.guard_tables.proofs.segments.segments_of.Given as goal

abbrev pub invariant-loop-place : goal.invariant-loop-place
invariant-loop-place l = AreSegments (map condition_view l.conditions) l.segments.items
