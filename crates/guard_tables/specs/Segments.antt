-- What fails of conditions on numbers, number by number and in segments of the numbers.
use Rattle.std.specs.Prelude.{ℕ, ℤ, ◌≡◌, ◌≤ℤ◌, true, List, Some, slice_get}
use Rattle.guard_tables.specs.declared.segments.Segment.{Segment}
use Rattle.guard_tables.specs.declared.slots.Slots.{Slots}
use Rattle.guard_tables.specs.Marking.{Facts, conditions_marked, are_on_numbers}
use Rattle.guard_tables.specs.Plan.{AbstractCondition}
use Rattle.guard_tables.specs.Slots.{added}

-- for this number these slots
abbrev pub Fails : List AbstractCondition → ℤ → Slots → Type 0
Fails cs z slots = (f : Facts) (m : Slots) → f.number ≡ Some z → conditions_marked cs f m ≡ added m slots

-- the same conditions fail for both numbers
abbrev pub FailsAlike : List AbstractCondition → ℤ → ℤ → Type 0
FailsAlike cs y z =
    (f g : Facts) (m : Slots) → f.number ≡ Some y → g.number ≡ Some z
    → conditions_marked cs f m ≡ conditions_marked cs g m

-- the segment's slots fail for each of its numbers, and all conditions are on numbers
abbrev pub IsSegment : List AbstractCondition → Segment → Type 0
IsSegment cs s = (z : ℤ) → s.first ≤ℤ z → z ≤ℤ s.last → (are_on_numbers cs ≡ true) × Fails cs z s.failed

abbrev pub AreSegments : List AbstractCondition → List Segment → Type 0
AreSegments cs segments = (k : ℕ) (s : Segment) → slice_get segments k ≡ Some s → IsSegment cs s

-- one of the segments has this number
pub record IsFound (s : Segment) (segments : List Segment) (z : ℤ) : Type 0 where
  pub place : ℕ
  pub there : slice_get segments place ≡ Some s
  pub above : s.first ≤ℤ z
  pub below : z ≤ℤ s.last
