-- A BIT STRING with named bits: what names in braces say, and where its values end (X.680 22.4 to 22.7).
use Rattle.std.specs.Prelude.{ℕ, zero, ◌+◌, ℤ, pos, negsuc, Bool, false, ◌||◌, List, [], ◌∷◌, map, nat_lt, nat_le, nat_eq, Option, Some, None, option_and_then, if◌then◌else◌}
use Rattle.std.specs.List.{range_with_len}
use Rattle.guard_model.specs.AbstractType.{NamedNumber}
use Rattle.guard_model.specs.Limits.{greatest_bit}
use Rattle.guard_syntax.specs.Trees as written
use Rattle.guard_syntax.specs.Trees.{WrittenValue, value_node, WrittenEntries, no_entries, entry}
use Rattle.guard_model.specs.NamedLists.{number_named}

-- ---- names in braces

-- an entry that is a lower-case name alone
abbrev pub name_alone : Option (List ℕ) → WrittenValue → Option (List ℕ)
name_alone (Some label) tree = None
name_alone None (value_node site (written.reference name)) = Some name
name_alone None (value_node site (written.boolean b)) = None
name_alone None (value_node site written.null) = None
name_alone None (value_node site (written.integer n)) = None
name_alone None (value_node site (written.text k spelling)) = None
name_alone None (value_node site (written.chosen name tree)) = None
name_alone None (value_node site (written.list es)) = None
name_alone None (value_node site (written.arcs arcs)) = None

-- the place of a bit, from 0: at most 65,535 in this profile (22.4)
abbrev pub place_of_bit : ℤ → Option ℕ
place_of_bit (pos n) = if nat_le n greatest_bit then Some n else None
place_of_bit (negsuc n) = None

-- of the bit with this name
abbrev pub named_bit : List NamedNumber → List ℕ → Option ℕ
named_bit names name = option_and_then place_of_bit (number_named name names)

abbrev pub one_more : Option ℕ → Option (List ℕ) → Option (List ℕ)
one_more (Some place) (Some places) = Some (place ∷ places)
one_more _ _ = None

-- The places of the bits that the entries name. An entry that names no bit says nothing, and neither do all of them
-- then.
abbrev pub places_named : List NamedNumber → WrittenEntries → Option (List ℕ)
places_named names no_entries = Some []
places_named names (entry site label tree rest) =
    one_more (option_and_then (named_bit names) (name_alone label tree)) (places_named names rest)

-- ---- the bits that are one

abbrev pub is_in : ℕ → List ℕ → Bool
is_in i [] = false
is_in i (p ∷ ps) = nat_eq i p || is_in i ps

-- how many bits there are up to the last of these places
abbrev pub bits_to_last : List ℕ → ℕ
bits_to_last [] = 0
bits_to_last (p ∷ ps) = if nat_lt p (bits_to_last ps) then bits_to_last ps else p + 1

-- one at each of these places and zero at all others, up to the last of them (22.6)
abbrev pub bit_among : List ℕ → ℕ → ℕ
bit_among places i = if is_in i places then 1 else 0

abbrev pub ones_at : List ℕ → List ℕ
ones_at places = map (bit_among places) (range_with_len 0 (bits_to_last places))

-- ---- trailing zero bits

abbrev pub before_ones : ℕ → List ℕ → List ℕ
before_ones zero [] = []
before_ones b bits = b ∷ bits

-- the bits up to the last one that is one
abbrev pub to_last_one : List ℕ → List ℕ
to_last_one [] = []
to_last_one (b ∷ bits) = before_ones b (to_last_one bits)

-- Where bits are named, trailing zero bits have no part in a value (22.7), and none is encoded (X.690 11.2.2).
abbrev pub bits_kept : List NamedNumber → List ℕ → List ℕ
bits_kept [] bits = bits
bits_kept (name ∷ names) bits = to_last_one bits
