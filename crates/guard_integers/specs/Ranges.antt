-- Lists of ranges, each with both its ends in.
use Rattle.std.specs.Prelude.{ℤ, pos, ◌+ℤ◌, Bool, true, false, ◌&&◌, ◌||◌, List, [], ◌∷◌}
use Rattle.std.specs.Int.Signed.{le_z, lt_z}
use Rattle.guard_integers.specs.declared.ranges.Range.{Range}

abbrev pub is_between : ℤ → ℤ → ℤ → Bool
is_between low high x = le_z low x && le_z x high

-- the integer lies in one of the ranges
abbrev pub one_holds : List Range → ℤ → Bool
one_holds [] x = false
one_holds (r ∷ rs) x = is_between r.low r.high x || one_holds rs x

-- the first range, where there is one, begins at least two above this integer
abbrev pub begin_after : ℤ → List Range → Bool
begin_after x [] = true
begin_after x (r ∷ rs) = lt_z (x +ℤ pos 1) r.low

-- Each range holds an integer, and at least one integer lies between it and the next one.
abbrev pub are_apart : List Range → Bool
are_apart [] = true
are_apart (r ∷ rs) = le_z r.low r.high && (begin_after r.high rs && are_apart rs)
