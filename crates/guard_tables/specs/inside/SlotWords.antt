-- Sets of slots as words of 64 bits, as private contracts cite them. A set that is made of slots has no more in each of
-- its first three words; of the fourth nothing need be said.
use Rattle.std.specs.Prelude.{◌≡◌, ◌<◌, ℕ, ◌^◌, List, [], ◌∷◌, ⊤}
use Rattle.std.specs.Int.{bit_at}
use Rattle.guard_tables.specs.declared.slots.Slots.{Slots}
use Rattle.guard_tables.specs.Demands.{SlotDemand}

pub record InWords (m : Slots) : Type 0 where
  pub first : m.first < 2 ^ 64
  pub second : m.second < 2 ^ 64
  pub third : m.third < 2 ^ 64

-- the lowest bit of a word that is set is at this place, of 64
pub record IsLowestBit (word place : ℕ) : Type 0 where
  pub within : place < 64
  pub set : bit_at word place ≡ 1
  pub others : (i : ℕ) → i < place → bit_at word i ≡ 0

-- the slots of each
abbrev pub DemandsIn : List SlotDemand → Type 0
DemandsIn [] = ⊤
DemandsIn (a ∷ demands) = InWords a.slots × DemandsIn demands
