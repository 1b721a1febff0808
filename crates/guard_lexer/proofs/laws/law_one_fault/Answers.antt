use Rattle.guard_lexer.proofs.OneAnswer.{one_fault}
use Rattle.guard_lexer.proofs.laws.law_one_fault.Goals as goal

pub returns : goal.returns
returns c = one_fault
