use Rattle.guard_lexer.proofs.OneAnswer.{none_lexed}
use Rattle.guard_lexer.proofs.laws.law_none_with_fault.Goals as goal

pub returns : goal.returns
returns c = none_lexed
