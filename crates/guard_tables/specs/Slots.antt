-- Sets of slots, as four words of 64 bits. Each thing that is asked of a value has a slot, and a set has those slots
-- where it isn't met.
use Rattle.std.specs.Prelude.{◌≡◌, ◌<◌, ℕ, ◌-◌, ◌^◌, Bool, true, false, Option, Some, None, nat_eq, nat_lt, if◌then◌else◌}
use Rattle.std.specs.Int.{bit_at}
use Rattle.std.specs.Int.Bits.{bit_and, bit_or, bit_xor}
use Rattle.guard_tables.specs.declared.slots.Slots.{Slots}

-- the empty set
unfoldable pub none : Slots
none = record { first = 0; second = 0; third = 0; fourth = 0 }

-- the set of one slot
unfoldable pub only : ℕ → Slots
only slot =
    if nat_lt slot 64 then record { first = 2 ^ slot; second = 0; third = 0; fourth = 0 }
    else if nat_lt slot 128 then record { first = 0; second = 2 ^ (slot - 64); third = 0; fourth = 0 }
    else if nat_lt slot 192 then record { first = 0; second = 0; third = 2 ^ (slot - 128); fourth = 0 }
    else record { first = 0; second = 0; third = 0; fourth = 2 ^ (slot - 192) }

-- the slots of both
unfoldable pub added : Slots → Slots → Slots
added m k = record {
  first = bit_or m.first k.first;
  second = bit_or m.second k.second;
  third = bit_or m.third k.third;
  fourth = bit_or m.fourth k.fourth;
}

-- a word with its lowest n bits, all of 64 at most
abbrev pub low_bits : ℕ → ℕ
low_bits n = if nat_lt n 64 then 2 ^ n - 1 else 2 ^ 64 - 1

-- the slots below this one
unfoldable pub below : ℕ → Slots
below slot = record {
  first = low_bits slot;
  second = low_bits (slot - 64);
  third = low_bits (slot - 128);
  fourth = low_bits (slot - 192);
}

-- the bits of one word that aren't in the other
abbrev pub bits_without : ℕ → ℕ → ℕ
bits_without a b = bit_and a (bit_xor a b)

-- the slots of one that aren't in the other
unfoldable pub without : Slots → Slots → Slots
without m k = record {
  first = bits_without m.first k.first;
  second = bits_without m.second k.second;
  third = bits_without m.third k.third;
  fourth = bits_without m.fourth k.fourth;
}

abbrev pub bit_of : Slots → ℕ → ℕ
bit_of m slot =
    if nat_lt slot 64 then bit_at m.first slot
    else if nat_lt slot 128 then bit_at m.second (slot - 64)
    else if nat_lt slot 192 then bit_at m.third (slot - 128)
    else bit_at m.fourth (slot - 192)

unfoldable pub has : Slots → ℕ → Bool
has m slot = nat_eq (bit_of m slot) 1

-- This slot of the set has the lowest number. None says that the set is empty.
abbrev pub IsLowest : Slots → Option ℕ → Type 0
IsLowest m (Some slot) = (has m slot ≡ true) × ((i : ℕ) → i < slot → has m i ≡ false)
IsLowest m None = m ≡ none
