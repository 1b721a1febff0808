use Rattle.guard_lexer.proofs.OneAnswer.{spans_of, tokens_answered, fault_answered}
use Rattle.guard_lexer.proofs.lexer.tokens.Goals as goal

pub returns-clause-spans : goal.returns-clause-spans
returns-clause-spans c = spans_of c.args.place c.args.text.now c.read.result c.read.ensures.tokens

pub returns-clause-only : goal.returns-clause-only
returns-clause-only c = λ ts given. tokens_answered c.args.place c.args.text.now c.read.result c.read.ensures.tokens c.read.ensures.fault ts given

pub returns-clause-refused : goal.returns-clause-refused
returns-clause-refused c = λ f given. fault_answered c.args.place c.args.text.now c.read.result c.read.ensures.tokens c.read.ensures.fault f given
