use Rattle.std.proofs.Common.{arith}
use Rattle.guard_eval.proofs.ValueAnswers.{sized_in_set}
use Rattle.guard_eval.proofs.number_sets.sizes_of_all.Goals as goal

pub returns : goal.returns
returns c = λ kind v. sized_in_set c.in_ok-own_integers.field-0 c.args.sizes.now kind v (grind arith) (c.in_ok-own_integers.ensures kind)
