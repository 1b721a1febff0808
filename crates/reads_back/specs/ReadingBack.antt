-- A text alone, read as a written value (X.680 17.7) of a type.
use Rattle.std.specs.Prelude.{ℕ, List}
use Rattle.guard_model.specs.AbstractType.{AbstractType}
use Rattle.guard_model.specs.AbstractValue.{AbstractValue}
use Rattle.guard_lexer.specs.Lexing.{Lexes}
use Rattle.guard_lexer.specs.declared.token.Token.{Token}
use Rattle.guard_syntax.specs.Lexemes.{lexemes_of}
use Rattle.guard_syntax.specs.Parses.{IsWrittenValue}
use Rattle.guard_syntax.specs.Trees.{WrittenValue}
use Rattle.guard_values.specs.Meanings.{Meaning}
use Rattle.guard_values.specs.Denotes.{Denotes}

-- The text has tokens, a tree of the grammar is written with them, and it denotes the value under the type.
pub record IsReadAs (meaning : Meaning) (t : AbstractType) (text : List ℕ) (v : AbstractValue) : Type 0 where
  pub place : ℕ
  pub tokens : List Token
  pub lexed : Lexes place text tokens
  pub tree : WrittenValue
  pub written : IsWrittenValue tree (lexemes_of text tokens)
  pub denoted : Denotes meaning t tree v
