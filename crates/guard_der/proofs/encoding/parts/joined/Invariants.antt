use Rattle.std.proofs.Common.{◌≡◌, ◌++◌, drop}
use Rattle.guard_der.specs.Der.{parts_joined}
use Rattle.guard_der.proofs.encoding.parts.joined.Given as goal
use Rattle.guard_der.specs.inside.EncodingSteps.{parts_view}

abbrev pub invariant-loop-part : goal.invariant-loop-part
invariant-loop-part l = l.out.items ++ parts_joined (parts_view (drop l.part-index l.parts)) ≡ parts_joined (parts_view l.parts)
