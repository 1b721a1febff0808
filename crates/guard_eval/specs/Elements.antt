-- What the elements of constraints ask: of a value alone by its number, its size or its characters, and of a contained
-- type by its base.
use Rattle.std.specs.Prelude.{ℕ, ◌*◌, ◌-◌, ℤ, pos, Bool, true, false, ◌&&◌, List, [], length, int_le, int_lt, Option, Some, None}
use Rattle.std.specs.Int.{is_in_range}
use Rattle.std.specs.List.{list_all, list_any}
use Rattle.guard_model.specs.declared.ty.Limit.{Limit}
use Rattle.guard_model.specs.declared.ty.Limit.TheVariants.{Free, At, Past}
use Rattle.guard_model.specs.AbstractType.{AbstractType, AbstractKind, type_of, no_constraints}
use Rattle.guard_model.specs.AbstractValue as value
use Rattle.guard_model.specs.AbstractValue.{AbstractValue, Items}
use Rattle.guard_model.specs.Counts.{item_count}
use Rattle.guard_model.specs.Limits.{fits_128_bits}
use Rattle.guard_model.specs.SameType.{same_base}

-- a contained type has the base of what it constrains, a type of this kind (X.680 51.3)
abbrev pub has_base : AbstractKind → AbstractType → Bool
has_base kind u = same_base u (type_of [] kind no_constraints)

-- MIN is no end, and `<` leaves the end out (X.680 51.4.2, 51.4.3)
abbrev pub is_above : Limit → ℤ → Bool
is_above Free z = true
is_above (At low) z = int_le low z
is_above (Past low) z = int_lt low z

abbrev pub is_under : Limit → ℤ → Bool
is_under Free z = true
is_under (At high) z = int_le z high
is_under (Past high) z = int_lt z high

-- a range: the integers between its ends (51.4)
abbrev pub is_between : Limit → Limit → AbstractValue → Bool
is_between low high (value.integer z) = is_above low z && is_under high z
is_between low high _ = false

-- The size of a value in bits, octets, characters or elements (51.5); other kinds have none. A string of bits that fits
-- its type has at most 7 unused bits, and none without an octet: so the difference is never cut off at 0.
abbrev pub size_of : AbstractValue → Option ℕ
size_of (value.bit_string os unused) = Some (8 * length os - unused)
size_of (value.octet_string os) = Some (length os)
size_of (value.characters cs) = Some (length cs)
size_of (value.items vs) = Some (item_count vs)
size_of _ = None

-- SIZE: the values whose size, as an INTEGER of this profile, passes the test (51.5)
abbrev pub some_passes : (AbstractValue → Bool) → Option ℕ → Bool
some_passes test None = false
some_passes test (Some n) = fits_128_bits (pos n) && test (value.integer (pos n))

abbrev pub has_size : (AbstractValue → Bool) → AbstractValue → Bool
has_size test v = some_passes test (size_of v)

-- FROM: the strings all of whose characters are in one of the ranges, both ends in (51.7)
abbrev pub is_in_some : List (ℕ × ℕ) → ℕ → Bool
is_in_some ranges c = list_any (λ r. is_in_range r.0 r.1 c) ranges

abbrev pub is_spelled_in : List (ℕ × ℕ) → AbstractValue → Bool
is_spelled_in ranges (value.characters cs) = list_all (is_in_some ranges) cs
is_spelled_in ranges _ = false

-- WITH COMPONENT: the lists all of whose elements pass the test (51.8.4)
abbrev pub every_item : (AbstractValue → Bool) → Items → Bool
every_item test value.no_items = true
every_item test (value.item v vs) = test v && every_item test vs

abbrev pub has_each : (AbstractValue → Bool) → AbstractValue → Bool
has_each test (value.items vs) = every_item test vs
has_each test _ = false
