use Rattle.std.proofs.Common.{arith}
use Rattle.guard_eval.proofs.ValueAnswers.{coded_in_set}
use Rattle.guard_eval.proofs.number_sets.codes_of_all.Goals as goal

pub returns : goal.returns
returns c =
    coded_in_set c.held_codes.result c.in_ok-minus.field-0 c.in_ok-codes.codes c.in_ok-left_out.left_out _ c.args.alphabets.now (grind arith) c.in_ok-codes.ensures c.in_ok-left_out.ensures c.in_ok-minus.ensures c.held_codes.ensures
