use Rattle.std.proofs.Common.{◌≡◌, ◌+◌, drop}
use Rattle.guard_der.proofs.encoding.parts.place_among.Given as goal
use Rattle.guard_der.specs.inside.EncodingSteps.{parts_view, place_among}

abbrev pub invariant-loop-index : goal.invariant-loop-index
invariant-loop-index l = place_among l.tag (parts_view l.parts) ≡ l.index + place_among l.tag (parts_view (drop l.index l.parts))
