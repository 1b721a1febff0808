-- The pieces of a text, each with what may come after it.
use Rattle.std.proofs.Common.{◌≡◌, ℕ, true, false, List, [], ◌∷◌, IsUtf8, refl, arith}
use Rattle.std.proofs.lemmas.Bool.Decides.{nat_tests}
use Rattle.guard_lexer.specs.Octets.{is_digit, is_hyphen, is_white_space}
use Rattle.guard_lexer.specs.inside.Reading.{mark_at}
use Rattle.guard_lexer.specs.declared.token.Mark.TheVariants as marks
use Rattle.guard_syntax.specs.Lexemes.{Lexeme, mark}
use Rattle.reads_back.proofs.Ascii.{one_ascii}
use Rattle.reads_back.proofs.Cuts.{Reads, one_more, like, mark_item}

-- ---- marks

pub left_brace : (rest : List ℕ) (ls : List Lexeme) → Reads rest ls → Reads (123 ∷ rest) (mark marks.LeftBrace ∷ ls)
unfolding mark_at
left_brace rest ls r = one_more (mark_item marks.LeftBrace) rest ls (one_ascii 123 refl) refl refl r

pub right_brace : (rest : List ℕ) (ls : List Lexeme) → Reads rest ls → Reads (125 ∷ rest) (mark marks.RightBrace ∷ ls)
unfolding mark_at
right_brace rest ls r = one_more (mark_item marks.RightBrace) rest ls (one_ascii 125 refl) refl refl r

pub comma : (rest : List ℕ) (ls : List Lexeme) → Reads rest ls → Reads (44 ∷ rest) (mark marks.Comma ∷ ls)
unfolding mark_at
comma rest ls r = one_more (mark_item marks.Comma) rest ls (one_ascii 44 refl) refl refl r

-- with a space after it
pub colon : (rest : List ℕ) (ls : List Lexeme) → Reads (32 ∷ rest) ls → Reads (58 ∷ 32 ∷ rest) (mark marks.Colon ∷ ls)
unfolding mark_at
colon rest ls r = one_more (mark_item marks.Colon) (32 ∷ rest) ls (one_ascii 58 refl) refl refl r

-- with a digit after it
pub minus : (d : ℕ) (rest : List ℕ) (ls : List Lexeme) → is_digit d ≡ true → Reads (d ∷ rest) ls → Reads (45 ∷ d ∷ rest) (mark marks.Minus ∷ ls)
unfolding mark_at
minus d rest ls digit r =
    let no : is_hyphen d ≡ false = grind (arith, nat_tests) in
    one_more (mark_item marks.Minus) (d ∷ rest) ls (one_ascii 45 refl) (rw no refl) refl r

-- ---- white space

pub white : (c : ℕ) (rest : List ℕ) (ls : List Lexeme) → IsUtf8 (c ∷ []) → is_white_space c ≡ true → Reads rest ls → Reads (c ∷ rest) ls
white c rest ls utf8 w r = one_more (like (32 ∷ []) (c ∷ [])) rest ls utf8 (rw w refl) refl r

pub space : (rest : List ℕ) (ls : List Lexeme) → Reads rest ls → Reads (32 ∷ rest) ls
space rest ls r = white 32 rest ls (one_ascii 32 refl) refl r

pub line_feed : (rest : List ℕ) (ls : List Lexeme) → Reads rest ls → Reads (10 ∷ rest) ls
line_feed rest ls r = white 10 rest ls (one_ascii 10 refl) refl r
