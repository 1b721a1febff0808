use Rattle.std.proofs.Common.{◌≡◌, ◌<◌, take, map}
use Rattle.std.specs.Prelude.{All, filter}
use Rattle.guard_values.specs.Strings.{is_hexadecimal_digit, digit_value}
use Rattle.guard_values.proofs.strings.hexadecimal_digits.Given as goal

abbrev pub invariant-loop-octet : goal.invariant-loop-octet
invariant-loop-octet l = record {
  digits : l.digits.items ≡ map digit_value (filter is_hexadecimal_digit (take l.octet-index l.spelling));
  small : All (λ d. d < 16) l.digits.items;
}
