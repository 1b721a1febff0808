use Rattle.guard_tagging.proofs.Definitions.SpelledTokens.{spelled_by_tokens}
use Rattle.guard_tagging.proofs.laws.law_spelled.Goals as goal

pub returns : goal.returns
returns c = spelled_by_tokens c.args.text.now c.args.tokens.now c.requires
