use Rattle.std.proofs.Common.{◌≡◌, length}
use Rattle.guard_der.specs.Der.{ascending}
use Rattle.guard_der.proofs.Functions.PartsInOrder.{put_in}
use Rattle.guard_der.proofs.encoding.parts.ascending.Given as goal
use Rattle.guard_der.specs.inside.EncodingSteps.{parts_view}

abbrev pub invariant-loop-part : goal.invariant-loop-part
invariant-loop-part l = put_in (parts_view l.parts.items) (parts_view l.sorted.items) ≡ ascending (parts_view l.initial.parts.items)

abbrev pub decreases-loop-part : goal.decreases-loop-part
decreases-loop-part l = length l.parts.items
