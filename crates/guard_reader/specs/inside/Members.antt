-- Components of a SET, one after the other.
use Rattle.std.specs.Prelude.{◌≡◌, ℕ, suc, ◌<◌, List, nat_eq, Option, Some, None}
use Rattle.std.specs.Int.{bit_at}
use Rattle.guard_tables.specs.Plan.{Parts, no_parts, part}
use Rattle.guard_reader.specs.Fronts.{Front, here, elsewhere, broken, front}
use Rattle.guard_reader.specs.Judging.{is_read}

abbrev pub found_at : ℕ → Front → Option (ℕ × List ℕ × List ℕ) → Option (ℕ × List ℕ × List ℕ)
found_at i (here inside rest) later = Some (i, inside, rest)
found_at i elsewhere later = later
found_at i broken later = None

-- the component that is at the front, of these of which the first is at place i: its place, what is inside it, and what
-- follows it
unfoldable pub member_found : Parts → ℕ → List ℕ → Option (ℕ × List ℕ × List ℕ)
member_found no_parts i os = None
member_found (part side p ps) i os = found_at i (front p os) (member_found ps (suc i) os)

-- The components that were read are at these places, which are kept as bits.
abbrev pub AreRead : ℕ → List ℕ → Type 0
AreRead read places = (i : ℕ) → i < 64 → nat_eq (bit_at read i) 1 ≡ is_read places i
