use Rattle.std.proofs.Common.{◌^◌, arith}
use Rattle.guard_lexer.proofs.NumberValues.{was_small, ended}
use Rattle.guard_lexer.specs.Items.{number_value}
use Rattle.guard_lexer.proofs.number.magnitude.Goals as goal

pub returns-in_err-checked_mul : goal.returns-in_err-checked_mul
returns-in_err-checked_mul c =
    rw c.from_residual.ensures (λ lt. c.in_err-checked_mul.ensures
    (omega (
      arith,
      was_small c.args.digits.now c.loop-digit.digit-index c.loop-digit.value
          (number_value c.args.digits.now) (2 ^ 128) c.loop-digit-test.true c.loop-digit.invariant.1 lt,
    )))

pub returns-in_err-value : goal.returns-in_err-value
returns-in_err-value c =
    rw c.from_residual-in_err-value.ensures (λ lt. c.in_err-value.ensures
    (omega (
      arith,
      c.in_ok-checked_mul.ensures,
      c.from.ensures,
      c.saturating_sub.ensures,
      was_small c.args.digits.now c.loop-digit.digit-index c.loop-digit.value
          (number_value c.args.digits.now) (2 ^ 128) c.loop-digit-test.true c.loop-digit.invariant.1 lt,
    )))

pub returns : goal.returns
returns c =
    ended c.args.digits.now c.loop-digit.digit-index c.loop-digit.value (2 ^ 128) c.loop-digit-test.false
    c.loop-digit.invariant.1 c.loop-digit.invariant.0
