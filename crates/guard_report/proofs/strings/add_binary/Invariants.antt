use Rattle.std.proofs.Common.{◌≡◌, ◌++◌, drop, map}
use Rattle.guard_report.specs.Strings.{bit_digit}
use Rattle.guard_report.proofs.strings.add_binary.Given as goal

abbrev pub invariant-loop-bit : goal.invariant-loop-bit
invariant-loop-bit l = l.text.items ++ map bit_digit (drop l.bit-index l.bits) ≡ l.initial.text.items ++ map bit_digit l.bits
