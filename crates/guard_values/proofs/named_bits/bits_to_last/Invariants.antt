use Rattle.std.proofs.Common.{◌≡◌, drop}
use Rattle.guard_values.specs.NamedBits.{bits_to_last}
use Rattle.guard_values.proofs.SingleValues.NamedBits.{greatest}
use Rattle.guard_values.proofs.named_bits.bits_to_last.Given as goal

abbrev pub invariant-loop-place : goal.invariant-loop-place
invariant-loop-place l = greatest l.count (bits_to_last (drop l.place-index l.places)) ≡ bits_to_last l.places
