-- What a pass over octets answers.
use Rattle.std.specs.Prelude.{◌≡◌, ℤ, ℕ, ◌≤ℤ◌, Bool, true, false, ◌<◌, ◌≤◌, ◌∷◌, [], length, get_or, List, Option, Some, None}
use Rattle.guard_der.specs.Octets.{twos_complement}
use Rattle.guard_der.specs.Simple.{integer_fault}
use Rattle.guard_tables.specs.declared.slots.Slots.{Slots}

-- what a test with a set of failures answers
abbrev pub Answers : Bool → Slots → Option Slots → Type 0
Answers true m answer = answer ≡ Some m
Answers false m answer = answer ≡ None

-- contents of an INTEGER from low to high
pub record IsSmall (low high : ℤ) (os : List ℕ) : Type 0 where
  pub right : integer_fault os ≡ None
  pub above : low ≤ℤ twos_complement os
  pub below : twos_complement os ≤ℤ high

-- an element at the front with contents of one octet, or of two
pub record IsOne (ident : ℕ) (low high : ℤ) (os : List ℕ) : Type 0 where
  pub room : 3 ≤ length os
  pub begins : get_or os 0 0 ≡ ident
  pub octet : ident < 256
  pub size : get_or os 1 0 ≡ 1
  pub small : IsSmall low high (get_or os 2 0 ∷ [])

pub record IsTwo (ident : ℕ) (low high : ℤ) (os : List ℕ) : Type 0 where
  pub room : 4 ≤ length os
  pub begins : get_or os 0 0 ≡ ident
  pub octet : ident < 256
  pub size : get_or os 1 0 ≡ 2
  pub small : IsSmall low high (get_or os 2 0 ∷ get_or os 3 0 ∷ [])
