-- Where tokens are spelled as their kinds say, the names of a module that is written with them are texts, and its
-- numbers have 128 bits at most.
use Rattle.std.proofs.Common.{ℕ, List}
use Rattle.guard_lexer.specs.declared.token.Token.{Token}
use Rattle.guard_lexer.specs.Spans.{AreSpans}
use Rattle.guard_lexer.proofs.WordTexts.{word_is_text}
use Rattle.guard_syntax.proofs.SpelledNames.{names_in_types}
use Rattle.guard_tagging.specs.Spelled.{SpelledByTokens}

pub spelled_by_tokens : (source : List ℕ) (tokens : List Token) → AreSpans source tokens → SpelledByTokens source tokens
spelled_by_tokens source tokens h m w = names_in_types source tokens m h w (λ s k. word_is_text s k.0.word) (λ s k. k.1)
