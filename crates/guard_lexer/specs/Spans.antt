-- Tokens as spans of a text.
use Rattle.std.specs.Prelude.{◌≡◌, ℕ, ◌<◌, ◌≤◌, ◌^◌, List, length, slice_range, All, Contains, IsTrue, not}
use Rattle.guard_lexer.specs.Octets.{is_capital, begins}
use Rattle.guard_lexer.specs.Items.{is_word, is_number, number_value, is_character_string, is_bit_string, is_hexadecimal_string}
use Rattle.guard_lexer.specs.Spelling.{reserved_spelling, mark_spelling, unsupported_words}
use Rattle.guard_lexer.specs.declared.token.Reserved.{Reserved}
use Rattle.guard_lexer.specs.declared.token.Token.{Token}
use Rattle.guard_lexer.specs.declared.token.TokenKind.{TokenKind}
use Rattle.guard_lexer.specs.declared.token.TokenKind.TheVariants as kind

-- a word that isn't reserved
pub record IsName (octets : List ℕ) : Type 0 where
  pub word : IsTrue (is_word octets)
  pub unreserved : (word : Reserved) → ¬ (octets ≡ reserved_spelling word)
  pub supported : ¬ (Contains unsupported_words octets)

-- The octets of a token of this kind (X.680 12.2, 12.3, 12.8, 12.10, 12.12, 12.14, 12.20 to 12.24, 12.37, 12.38).
abbrev pub IsSpelled : TokenKind → List ℕ → Type 0
IsSpelled (kind.Reserved word) octets = octets ≡ reserved_spelling word
IsSpelled kind.Unsupported octets = Contains unsupported_words octets
IsSpelled kind.UpperName octets = IsName octets × IsTrue (begins is_capital octets)
IsSpelled kind.LowerName octets = IsName octets × IsTrue (not (begins is_capital octets))
IsSpelled kind.Number octets = IsTrue (is_number octets) × (number_value octets < 2 ^ 128)
IsSpelled kind.CharacterString octets = IsTrue (is_character_string octets)
IsSpelled kind.BitString octets = IsTrue (is_bit_string octets)
IsSpelled kind.HexadecimalString octets = IsTrue (is_hexadecimal_string octets)
IsSpelled (kind.Mark mark) octets = octets ≡ mark_spelling mark

-- the token is a span of the text, spelled as its kind says
pub record IsSpan (text : List ℕ) (token : Token) : Type 0 where
  pub order : token.start ≤ token.end
  pub within : token.end ≤ length text
  pub spelled : IsSpelled token.kind (slice_range text token.start token.end)

abbrev pub AreSpans : List ℕ → List Token → Type 0
AreSpans text tokens = All (IsSpan text) tokens
