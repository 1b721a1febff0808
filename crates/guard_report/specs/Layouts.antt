-- How what is in braces is laid out: on one line, or each part on a line of its own.
use Rattle.std.specs.Prelude.{ℕ, zero, suc, ◌+◌, ◌^◌, ◌-◌, Bool, true, false, List, [], ◌∷◌, ◌++◌, codes, min}
use Rattle.guard_report.specs.declared.layout.Layout.{Layout}
use Rattle.guard_report.specs.declared.layout.Layout.TheVariants.{Line, Lines}

-- one level further in, as far as levels are counted
abbrev pub deeper : ℕ → ℕ
deeper level = min (level + 1) (2 ^ 8 - 1)

-- that of the parts
abbrev pub inside : Layout → Layout
inside Line = Line
inside (Lines level) = Lines (deeper level)

-- two for each level
abbrev pub spaces : ℕ → List ℕ
spaces zero = []
spaces (suc level) = codes "  " ++ spaces level

abbrev pub new_line : ℕ → List ℕ
new_line level = codes "\n" ++ spaces level

-- what comes before a part: a comma after the part before it, and the place where it begins
abbrev pub before_part : Layout → Bool → List ℕ
before_part Line true = []
before_part Line false = codes ", "
before_part (Lines level) true = new_line level
before_part (Lines level) false = codes "," ++ new_line level

-- What comes after the last part. Where there is none, nothing is between the braces.
abbrev pub closing : Layout → Bool → List ℕ
closing layout true = codes "}"
closing Line false = codes "}"
closing (Lines level) false = new_line level ++ codes "}"

-- these parts, the first of which is the first of all, or not, and what closes them
abbrev pub parts_from : Layout → Bool → List (List ℕ) → List ℕ
parts_from layout is_first [] = closing layout is_first
parts_from layout is_first (part ∷ parts) =
    before_part (inside layout) is_first ++ part ++ parts_from layout false parts

-- parts with commas between them
abbrev pub in_braces : Layout → List (List ℕ) → List ℕ
in_braces layout parts = codes "{" ++ parts_from layout true parts
