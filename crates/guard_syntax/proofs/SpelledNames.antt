-- In a module that is written with the tokens of a text, names and digits are spelled as their kinds say.
use Rattle.std.proofs.Common.{ℕ, zero, suc, List, [], ◌∷◌, refl, sym, subst, arith}
use Rattle.guard_lexer.specs.declared.token.Token.{Token}
use Rattle.guard_lexer.specs.declared.token.TokenKind.{TokenKind}
use Rattle.guard_lexer.specs.declared.token.TokenKind.TheVariants as kind
use Rattle.guard_lexer.specs.Spans.{IsSpelled, AreSpans}
use Rattle.guard_syntax.specs.Lexemes.{Lexeme, kind_of, spelling_of, lexeme_of, octets_of, lexemes_of}
use Rattle.guard_syntax.specs.NamesInTypes.{EachAssigned}
use Rattle.guard_syntax.specs.Parses.{IsWritten}
use Rattle.guard_syntax.specs.Trees.{WrittenModule}
use Rattle.guard_syntax.specs.TokensOf.{tokens_of}
use Rattle.guard_syntax.proofs.Following.{Are, each_written}

-- it is spelled as its kind says
abbrev IsLawful : Lexeme → Type 0
IsLawful l = IsSpelled (kind_of l) (spelling_of l)

lawful : (k : TokenKind) (octets : List ℕ) → IsSpelled k octets → IsLawful (lexeme_of k octets)
lawful (kind.Reserved r) octets h = refl
lawful (kind.Mark m) octets h = refl
lawful k octets h = h

all_lawful : (text : List ℕ) (tokens : List Token) → AreSpans text tokens → Are IsLawful (lexemes_of text tokens)
all_lawful text [] h = tt
all_lawful text (t ∷ tokens) h = (
  lawful t.kind (octets_of text t) (h zero t (omega arith)).spelled,
  all_lawful text tokens (λ k d l. h (suc k) d (omega (arith, l))),
)

module _ (text : List ℕ) (tokens : List Token) (m : WrittenModule) (spans : AreSpans text tokens)
    (written : IsWritten m (lexemes_of text tokens)) where
  all_written : Are IsLawful (tokens_of m)
  all_written = subst (Are IsLawful) (sym written.tokens) (all_lawful text tokens spans)

  pub module_name : IsSpelled kind.UpperName m.name
  module_name = all_written.0

  pub names_in_types : {Name Digits : List ℕ → Type 0} → ((s : List ℕ) → IsSpelled kind.LowerName s → Name s)
      → ((s : List ℕ) → IsSpelled kind.Number s → Digits s) → EachAssigned Name Digits m.assignments
  names_in_types name_is digits_are = each_written IsLawful name_is digits_are m all_written
