use Rattle.std.proofs.Common.{◌≡◌, drop}
use Rattle.guard_der.specs.Fits.{descends}
use Rattle.guard_der.proofs.order.descends.Given as goal

abbrev pub invariant-loop-index : goal.invariant-loop-index
invariant-loop-index l = descends (drop l.index l.octets) (drop l.index l.next) ≡ descends l.octets l.next
