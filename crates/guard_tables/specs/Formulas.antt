-- Formulas over what has failed at a node (X.680 50): a union fails where all of its members do, `A EXCEPT B` where A
-- fails or B doesn't.
use Rattle.std.specs.Prelude.{ℕ, Bool, true, false, not, ◌&&◌, ◌||◌, List, [], ◌∷◌}
use Rattle.guard_tables.specs.declared.slots.Slots.{Slots}
use Rattle.guard_tables.specs.Slots.{added, has}

-- where something fails, by which slots have failed
pub data Form : Type 0 where
  never : Form
  always : Form
  slot : ℕ → Form
  both : Form → Form → Form
  either : Form → Form → Form
  unless : Form → Form

abbrev pub fails_where : Form → (ℕ → Bool) → Bool
fails_where never failed = false
fails_where always failed = true
fails_where (slot n) failed = failed n
fails_where (both a b) failed = fails_where a failed && fails_where b failed
fails_where (either a b) failed = fails_where a failed || fails_where b failed
fails_where (unless a) failed = not (fails_where a failed)

-- these slots fail where the formula says so
pub record Implication : Type 0 where
  pub slots : Slots
  pub where_failed : Form

-- the set, with the slots unless the test passed
abbrev pub failed_unless : Bool → Slots → Slots → Slots
failed_unless true slots m = m
failed_unless false slots m = added m slots

-- what fails outside, after m, where the inner set is what has failed inside
abbrev pub implied : List Implication → Slots → Slots → Slots
implied [] inner m = m
implied (r ∷ rs) inner m = implied rs inner (failed_unless (not (fails_where r.where_failed (has inner))) r.slots m)
