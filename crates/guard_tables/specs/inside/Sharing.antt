-- How the types of a table are kept once each, and what they ask then.
use Rattle.std.specs.Prelude.{ℕ, suc, ◌≡◌, nat_eq, nat_lt, List, [], ◌∷◌, ◌++◌, length, if◌then◌else◌}
use Rattle.guard_model.specs.AbstractType.{AbstractType}
use Rattle.guard_model.specs.SameType.{same_type}
use Rattle.guard_tables.specs.declared.slots.Slots.{Slots}
use Rattle.guard_tables.specs.Demands.{by_type, SlotDemand}
use Rattle.guard_tables.specs.OfParts.{slot_demand}
use Rattle.guard_tables.specs.Lay.{added_if}
use Rattle.guard_tables.specs.Slots.{none, only}

-- the place of the first of these types that is this one; where there is none, the place after the last
abbrev pub place_of : List AbstractType → AbstractType → ℕ
place_of [] t = 0
place_of (u ∷ us) t = if same_type u t then 0 else suc (place_of us t)

-- with this type among them
abbrev pub with_type : List AbstractType → AbstractType → List AbstractType
with_type ts t = if nat_lt (place_of ts t) (length ts) then ts else ts ++ t ∷ []

-- after these types those that come, each once
abbrev pub shared : List AbstractType → List AbstractType → List AbstractType
shared ts [] = ts
shared ts (t ∷ rest) = shared (with_type ts t) rest

-- the places of those that come
abbrev pub places_of : List AbstractType → List AbstractType → List ℕ
places_of ts [] = []
places_of ts (t ∷ rest) = place_of ts t ∷ places_of (with_type ts t) rest

-- the slots of those, the first of which has this slot, whose type is at this place
abbrev pub slots_for : ℕ → ℕ → List ℕ → Slots
slots_for at slot [] = none
slots_for at slot (place ∷ places) = added_if (nat_eq place at) (only slot) (slots_for at (suc slot) places)

-- membership in each of these types, the first of which is at this place
abbrev pub demands_by : ℕ → List AbstractType → List ℕ → List SlotDemand
demands_by at [] places = []
demands_by at (t ∷ ts) places = slot_demand (slots_for at 0 places) (by_type t) ∷ demands_by (suc at) ts places

-- what one rule's type adds to the types beside the declared one, and to the places
pub record Takes (declared t : AbstractType) (others new : List AbstractType) (before after : List ℕ) : Type 0 where
  pub types : declared ∷ new ≡ with_type (declared ∷ others) t
  pub places : after ≡ before ++ place_of (declared ∷ others) t ∷ []
