-- The lexemes of a text (X.680 clause 12): the kinds and spellings of its tokens.
use Rattle.std.specs.Prelude.{ℕ, List, map, slice_range}
use Rattle.guard_model.specs.declared.site.Site.{Site}
use Rattle.guard_lexer.specs.declared.token.Token.{Token}
use Rattle.guard_lexer.specs.declared.token.TokenKind.{TokenKind}
use Rattle.guard_lexer.specs.declared.token.TokenKind.TheVariants as kind
use Rattle.guard_lexer.specs.declared.token.Reserved.{Reserved}
use Rattle.guard_lexer.specs.declared.token.Mark.{Mark}
use Rattle.guard_lexer.specs.Spelling.{reserved_spelling, mark_spelling}

-- A kind and a spelling. A reserved word and a mark have one spelling each, so it need not be said.
pub data Lexeme : Type 0 where
  word : Reserved → Lexeme
  mark : Mark → Lexeme
  upper_name : List ℕ → Lexeme
  lower_name : List ℕ → Lexeme
  number : List ℕ → Lexeme
  character_string : List ℕ → Lexeme
  bit_string : List ℕ → Lexeme
  hexadecimal_string : List ℕ → Lexeme
  unsupported : List ℕ → Lexeme

abbrev pub kind_of : Lexeme → TokenKind
kind_of (word r) = kind.Reserved r
kind_of (mark m) = kind.Mark m
kind_of (upper_name s) = kind.UpperName
kind_of (lower_name s) = kind.LowerName
kind_of (number s) = kind.Number
kind_of (character_string s) = kind.CharacterString
kind_of (bit_string s) = kind.BitString
kind_of (hexadecimal_string s) = kind.HexadecimalString
kind_of (unsupported s) = kind.Unsupported

abbrev pub spelling_of : Lexeme → List ℕ
spelling_of (word r) = reserved_spelling r
spelling_of (mark m) = mark_spelling m
spelling_of (upper_name s) = s
spelling_of (lower_name s) = s
spelling_of (number s) = s
spelling_of (character_string s) = s
spelling_of (bit_string s) = s
spelling_of (hexadecimal_string s) = s
spelling_of (unsupported s) = s

-- the lexeme of a token of this kind that is spelled so
abbrev pub lexeme_of : TokenKind → List ℕ → Lexeme
lexeme_of (kind.Reserved r) s = word r
lexeme_of (kind.Mark m) s = mark m
lexeme_of kind.UpperName s = upper_name s
lexeme_of kind.LowerName s = lower_name s
lexeme_of kind.Number s = number s
lexeme_of kind.CharacterString s = character_string s
lexeme_of kind.BitString s = bit_string s
lexeme_of kind.HexadecimalString s = hexadecimal_string s
lexeme_of kind.Unsupported s = unsupported s

-- the octets of a token
abbrev pub octets_of : List ℕ → Token → List ℕ
octets_of text t = slice_range text t.start t.end

-- the lexemes of a text that is cut into these tokens
abbrev pub lexemes_of : List ℕ → List Token → List Lexeme
lexemes_of text tokens = map (λ t. lexeme_of t.kind (octets_of text t)) tokens

abbrev pub sites_of : List Token → List Site
sites_of tokens = map (λ t. t.site) tokens

-- The kinds whose tokens may be spelled in more than one way.
abbrev pub HasSpelling : TokenKind → Type 0
HasSpelling (kind.Reserved r) = ⊥
HasSpelling (kind.Mark m) = ⊥
HasSpelling kind.UpperName = Unit {0}
HasSpelling kind.LowerName = Unit {0}
HasSpelling kind.Number = Unit {0}
HasSpelling kind.CharacterString = Unit {0}
HasSpelling kind.BitString = Unit {0}
HasSpelling kind.HexadecimalString = Unit {0}
HasSpelling kind.Unsupported = Unit {0}
