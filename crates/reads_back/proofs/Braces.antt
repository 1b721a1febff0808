-- What stands between the parts in braces.
use Rattle.std.proofs.Common.{◌≡◌, ℕ, zero, suc, Bool, true, false, List, [], ◌∷◌, ◌++◌, refl, sym, subst, ◌∙◌, append_assoc}
use Rattle.guard_lexer.specs.declared.token.Mark.TheVariants.{Comma, RightBrace}
use Rattle.guard_syntax.specs.Lexemes.{Lexeme, mark}
use Rattle.guard_report.specs.declared.layout.Layout.{Layout}
use Rattle.guard_report.specs.declared.layout.Layout.TheVariants.{Line, Lines}
use Rattle.guard_report.specs.Layouts.{inside, spaces, new_line, before_part, closing, parts_from}
use Rattle.reads_back.proofs.Cuts.{Reads}
use Rattle.reads_back.proofs.Pieces.{right_brace, comma, space, line_feed}
use Rattle.reads_back.proofs.WordPieces.{is_apart}

spaces_read : (level : ℕ) (text : List ℕ) (ls : List Lexeme) → Reads text ls → Reads (spaces level ++ text) ls
spaces_read zero text ls r = r
spaces_read (suc level) text ls r = space (32 ∷ spaces level ++ text) ls (space (spaces level ++ text) ls (spaces_read level text ls r))

pub new_line_reads : (level : ℕ) (text : List ℕ) (ls : List Lexeme) → Reads text ls → Reads (new_line level ++ text) ls
new_line_reads level text ls r = line_feed (spaces level ++ text) ls (spaces_read level text ls r)

-- a comma before all but the first
abbrev pub comma_unless : Bool → List Lexeme → List Lexeme
comma_unless true ls = ls
comma_unless false ls = mark Comma ∷ ls

pub before_reads : (layout : Layout) (is_first : Bool) (text : List ℕ) (ls : List Lexeme) → Reads text ls → Reads (before_part layout is_first ++ text) (comma_unless is_first ls)
before_reads Line true text ls r = r
before_reads Line false text ls r = comma (32 ∷ text) ls (space text ls r)
before_reads (Lines level) true text ls r = new_line_reads level text ls r
before_reads (Lines level) false text ls r = comma (new_line level ++ text) ls (new_line_reads level text ls r)

pub closing_reads : (layout : Layout) (is_none : Bool) (rest : List ℕ) (ls : List Lexeme) → Reads rest ls → Reads (closing layout is_none ++ rest) (mark RightBrace ∷ ls)
closing_reads Line true rest ls r = right_brace rest ls r
closing_reads Line false rest ls r = right_brace rest ls r
closing_reads (Lines level) true rest ls r = right_brace rest ls r
closing_reads (Lines level) false rest ls r =
    subst (λ (x : List ℕ). Reads x (mark RightBrace ∷ ls)) (sym (append_assoc (new_line level) (125 ∷ []) rest))
    (new_line_reads level (125 ∷ rest) (mark RightBrace ∷ ls) (right_brace rest ls r))

-- what comes after a part sets it apart
pub behind_part : (layout : Layout) (parts : List (List ℕ)) (rest : List ℕ) → is_apart (parts_from layout false parts ++ rest) ≡ true
behind_part Line [] rest = refl
behind_part (Lines level) [] rest = refl
behind_part Line (part ∷ parts) rest = refl
behind_part (Lines level) (part ∷ parts) rest = refl

pub one_part : (layout : Layout) (is_first : Bool) (part : List ℕ) (parts : List (List ℕ)) (rest : List ℕ) (ls : List Lexeme)
    → Reads (part ++ (parts_from layout false parts ++ rest)) ls → Reads (parts_from layout is_first (part ∷ parts) ++ rest) (comma_unless is_first ls)
one_part layout is_first part parts rest ls r =
    let before = before_part (inside layout) is_first in
    let others = parts_from layout false parts in
    subst (λ (x : List ℕ). Reads x (comma_unless is_first ls))
    (sym (append_assoc (before ++ part) others rest ∙ append_assoc before part (others ++ rest)))
    (before_reads (inside layout) is_first (part ++ (others ++ rest)) ls r)
