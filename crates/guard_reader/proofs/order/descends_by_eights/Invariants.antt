use Rattle.std.proofs.Common.{◌≡◌, length}
use Rattle.guard_der.specs.Fits.{descends}
use Rattle.guard_reader.proofs.order.descends_by_eights.Given as goal

abbrev pub invariant-loop-rest : goal.invariant-loop-rest
invariant-loop-rest l = descends l.rest l.after ≡ descends l.octets l.next

abbrev pub decreases-loop-rest : goal.decreases-loop-rest
decreases-loop-rest l = length l.rest
