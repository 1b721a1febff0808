-- What more is said of a token at which the grammar goes no further: what may come in its place. The line has this form;
-- which names are in it is shown by rows, as it is of the place of such a fault.
use Rattle.std.specs.Prelude.{◌≡◌, ℕ, List, [], ◌∷◌, ◌++◌, codes}

abbrev pub other : List ℕ → List ℕ
other n = codes " or " ++ n

abbrev pub others : List (List ℕ) → List ℕ
others [] = []
others (n ∷ ns) = other n ++ others ns

-- names of what may come; no line without one
abbrev pub expected_line : List (List ℕ) → List ℕ
expected_line [] = []
expected_line (n ∷ ns) = codes "  What may come here: " ++ (n ++ (others ns ++ codes "\n"))

abbrev pub IsExpectedLine : List ℕ → Type 0
IsExpectedLine line = (names : List (List ℕ)) × (line ≡ expected_line names)
