-- Which token a word is (X.680 12.2, 12.3, 12.38).
use Rattle.std.specs.Prelude.{ℕ, Bool, List, Option, Some, None, if◌then◌else◌, find, bytes_eq}
use Rattle.std.specs.List.{list_any}
use Rattle.guard_lexer.specs.Octets.{is_capital, begins}
use Rattle.guard_lexer.specs.Spelling.{reserved_spelling, reserved_words, unsupported_words}
use Rattle.guard_lexer.specs.declared.token.Reserved.{Reserved}
use Rattle.guard_lexer.specs.declared.token.TokenKind.{TokenKind}
use Rattle.guard_lexer.specs.declared.token.TokenKind.TheVariants as kind

-- the reserved word that is spelled so
abbrev pub reserved_word : List ℕ → Option Reserved
reserved_word octets = find (λ word. bytes_eq octets (reserved_spelling word)) reserved_words

abbrev pub is_unsupported : List ℕ → Bool
is_unsupported octets = list_any (λ word. bytes_eq octets word) unsupported_words

-- a word that is in neither list is a name
abbrev pub name_kind : List ℕ → TokenKind
name_kind octets = if begins is_capital octets then kind.UpperName else kind.LowerName

abbrev pub kind_given : Option Reserved → List ℕ → TokenKind
kind_given (Some word) octets = kind.Reserved word
kind_given None octets = if is_unsupported octets then kind.Unsupported else name_kind octets

abbrev pub word_kind : List ℕ → TokenKind
word_kind octets = kind_given (reserved_word octets) octets
