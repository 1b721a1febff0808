-- The ranges of a permitted alphabet, as the nodes of a table keep them: both ends in.
use Rattle.std.specs.Prelude.{ℕ, ◌+◌, Bool, true, ◌&&◌, List, [], ◌∷◌, nat_le, nat_lt}

-- the first range, where there is one, begins at least two above this code
abbrev pub begin_after : ℕ → List (ℕ × ℕ) → Bool
begin_after code [] = true
begin_after code (r ∷ rs) = nat_lt (code + 1) r.0

-- Each range has a code, and at least one code lies between it and the next one.
abbrev pub are_apart : List (ℕ × ℕ) → Bool
are_apart [] = true
are_apart (r ∷ rs) = nat_le r.0 r.1 && (begin_after r.1 rs && are_apart rs)
