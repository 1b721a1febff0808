use Rattle.guard_lexer.proofs.TokensOrFault.{tokens_or_fault}
use Rattle.guard_lexer.proofs.laws.law_tokens_or_fault.Goals as goal

pub returns : goal.returns
returns c = tokens_or_fault
