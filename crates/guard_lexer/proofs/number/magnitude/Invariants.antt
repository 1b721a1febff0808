use Rattle.std.proofs.Common.{◌≡◌, ◌^◌, ◌<◌, drop}
use Rattle.std.specs.Prelude.{fold}
use Rattle.guard_lexer.proofs.NumberValues.{with_digit}
use Rattle.guard_lexer.specs.Items.{number_value}
use Rattle.guard_lexer.proofs.number.magnitude.Given as goal

abbrev pub invariant-loop-digit : goal.invariant-loop-digit
invariant-loop-digit l = (l.value < 2 ^ 128) × (fold with_digit l.value (drop l.digit-index l.digits) ≡ number_value l.digits)
