-- The lines of a text.
use Rattle.std.specs.Prelude.{ℕ, nat_eq, List, [], ◌∷◌, if◌then◌else◌}

-- one octet before the first of some lines
abbrev pub with_first : ℕ → List (List ℕ) → List (List ℕ)
with_first o [] = (o ∷ []) ∷ []
with_first o (line ∷ lines) = (o ∷ line) ∷ lines

-- the lines of a text, without the line feed, 10, that ends each; the last one may lack it
abbrev pub lines_of : List ℕ → List (List ℕ)
lines_of [] = []
lines_of (o ∷ text) = if nat_eq o 10 then [] ∷ lines_of text else with_first o (lines_of text)
