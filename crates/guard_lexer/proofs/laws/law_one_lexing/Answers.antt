use Rattle.guard_lexer.proofs.OneAnswer.{one_list}
use Rattle.guard_lexer.proofs.laws.law_one_lexing.Goals as goal

pub returns : goal.returns
returns c = one_list
