use Rattle.std.proofs.Common.{◌≡◌, drop}
use Rattle.guard_der.specs.Simple.{are_subidentifiers}
use Rattle.guard_der.proofs.object_id.are_subidentifiers.Given as goal

abbrev pub invariant-loop-octet : goal.invariant-loop-octet
invariant-loop-octet l = are_subidentifiers l.starts (drop l.octet-index l.octets) ≡ are_subidentifiers l.fn.starts l.octets
