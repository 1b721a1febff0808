-- How many frames there were, and how many times something was done. Each number stays at the greatest of 64 bits.
use Rattle.std.specs.Prelude.{◌≡◌, ℕ, ◌+◌, ◌-◌, ◌^◌, min, List, [], ◌∷◌, if◌then◌else◌}
use Rattle.guard_frames.specs.declared.totals.Totals.{Totals}
use Rattle.guard_frames.specs.Outcomes.{Outcome}

-- the number k after n
abbrev pub later : ℕ → ℕ → ℕ
later n k = min (n + k) (2 ^ 64 - 1)

-- a count went up by k
abbrev pub WentUpBy : ℕ → ℕ → ℕ → Type 0
WentUpBy old k new = later new 0 ≡ later old k

abbrev pub no_frames : Totals
no_frames = record { frames = 0; passed = 0; denied = 0 }

-- after one more frame that goes
abbrev pub after_going : Totals → Totals
after_going t = record { frames = later t.frames 1; passed = later t.passed 1; denied = t.denied }

-- after one more frame that stays
abbrev pub after_staying : Totals → Totals
after_staying t = record { frames = later t.frames 1; passed = t.passed; denied = later t.denied 1 }

-- the number of the frame that comes next, from 1
abbrev pub next_number : Totals → ℕ
next_number t = later t.frames 1

-- after one more frame, and after some
abbrev pub counted_one : Totals → Outcome → Totals
counted_one t o = if o.goes then after_going t else after_staying t

abbrev pub counted : Totals → List Outcome → Totals
counted t [] = t
counted t (o ∷ outcomes) = counted (counted_one t o) outcomes
