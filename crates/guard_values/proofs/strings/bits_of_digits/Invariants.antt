use Rattle.std.proofs.Common.{◌≡◌, ◌<◌, ◌++◌, drop}
use Rattle.std.specs.Prelude.{All}
use Rattle.guard_values.specs.Strings.{bits_of_digits}
use Rattle.guard_values.proofs.strings.bits_of_digits.Given as goal

abbrev pub invariant-loop-digit : goal.invariant-loop-digit
invariant-loop-digit l = record {
  so_far : l.bits.items ++ bits_of_digits (drop l.digit-index l.digits) ≡ bits_of_digits l.digits;
  small : All (λ b. b < 2) l.bits.items;
}
