use Rattle.std.proofs.Common.{ℕ, pos, inl, inr, arith}
use Rattle.std.proofs.lemmas.Bool.{cases_lt}
use Rattle.std.proofs.lemmas.List.{get_or_past}
use Rattle.guard_integers.specs.Integers.{holds}
use Rattle.guard_eval.proofs.held_codes.held_codes.Goals as goal

pub returns : goal.returns
returns c = λ code. elim (cases_lt code c.loop-code.code) [
  | inl below ↦ c.loop-code.invariant.1 code below
  | inr past ↦ get_or_past c.loop-code.first code (holds c.args.set (pos code)) (omega (arith, past, c.loop-code.invariant.0, c.loop-code-test.false))
]
