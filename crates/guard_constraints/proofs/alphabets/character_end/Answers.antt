use Rattle.std.proofs.Common.{arith}
use Rattle.guard_constraints.proofs.CodeSteps.AlphabetForms.{one_code, not_one}
use Rattle.guard_constraints.proofs.alphabets.character_end.Goals as goal

pub returns-then-codes-eq1 : goal.returns-then-codes-eq1
returns-then-codes-eq1 c = one_code c.args.site c.args.codes.now (omega arith)

pub returns-else-codes-eq1 : goal.returns-else-codes-eq1
returns-else-codes-eq1 c = not_one c.args.site c.args.codes.now (λ e. absurd (omega arith))
