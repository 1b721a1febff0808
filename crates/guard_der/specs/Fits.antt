-- The abstract values of a type, constraints aside.
use Rattle.std.specs.Prelude.{ℕ, zero, suc, ◌+◌, ◌*◌, ◌/◌, ◌%◌, ◌^◌, ℤ, Bool, true, false, not, ◌&&◌, ◌||◌, List, [], ◌∷◌, length, nat_lt, nat_le, nat_eq, Option, Some, None}
use Rattle.guard_model.specs.AbstractType as type
use Rattle.guard_model.specs.AbstractType.{AbstractType, AbstractKind, AbstractPresence, Components, NamedNumber, type_of, no_components, component}
use Rattle.guard_model.specs.AbstractValue as value
use Rattle.guard_model.specs.AbstractValue.{AbstractValue, Fields, Items}
use Rattle.guard_model.specs.Alphabets.{fits_characters}
use Rattle.guard_model.specs.Limits.{fits_128_bits}
use Rattle.guard_model.specs.NamedLists.{is_item}
use Rattle.guard_der.specs.Der.{der, item_encodings}
use Rattle.guard_model.specs.Counts.{item_count}

abbrev pub all_below : ℕ → List ℕ → Bool
all_below limit [] = true
all_below limit (n ∷ ns) = nat_lt n limit && all_below limit ns

abbrev pub last_octet : List ℕ → ℕ
last_octet [] = 0
last_octet (o ∷ []) = o
last_octet (o ∷ p ∷ os) = last_octet (p ∷ os)

-- At most seven bits are unused, and without octets none (X.690 8.6.2); the unused bits are zero (11.2.1).
abbrev pub has_proper_end : List ℕ → ℕ → Bool
has_proper_end os unused = nat_le unused 7 && (nat_eq unused 0 || nat_lt 0 (length os))

abbrev pub has_zero_end : List ℕ → ℕ → Bool
has_zero_end os unused = nat_eq (last_octet os % 2 ^ unused) 0

abbrev pub fits_bits : List ℕ → ℕ → Bool
fits_bits os unused = all_below 256 os && has_proper_end os unused && has_zero_end os unused

-- The last bit is one, or there are no octets and so no bits.
abbrev pub has_no_trailing_zero : List ℕ → ℕ → Bool
has_no_trailing_zero [] unused = true
has_no_trailing_zero (o ∷ os) unused = nat_eq (last_octet (o ∷ os) / 2 ^ unused % 2) 1

-- Where bits are named, trailing zero bits have no part in the value (X.680 22.7), and none is encoded (X.690 11.2.2).
abbrev pub ends_as_named : List NamedNumber → List ℕ → ℕ → Bool
ends_as_named [] os unused = true
ends_as_named (name ∷ names) os unused = has_no_trailing_zero os unused

-- X.660 has three first arcs, 0, 1 and 2, and 40 arcs each under 0 and 1. In this profile no subidentifier has more
-- than 128 bits.
abbrev pub fits_first_arcs : ℕ → ℕ → Bool
fits_first_arcs x y = nat_le x 2 && (nat_eq x 2 || nat_le y 39) && nat_lt (40 * x + y) (2 ^ 128)

abbrev pub fits_arcs : List ℕ → Bool
fits_arcs (x ∷ y ∷ arcs) = fits_first_arcs x y && all_below (2 ^ 128) arcs
fits_arcs _ = false

abbrev pub may_be_absent : AbstractPresence → Bool
may_be_absent type.optional = true
may_be_absent _ = false

abbrev pub every_fits : (AbstractValue → Bool) → Items → Bool
every_fits fit value.no_items = true
every_fits fit (value.item v vs) = fit v && every_fits fit vs

-- this profile's limit on the elements of an OF type
abbrev pub are_few : Items → Bool
are_few vs = nat_le (item_count vs) 4294967295

-- The first descends to the second, the shorter one padded with zero octets (X.690 11.6).
abbrev pub descends : List ℕ → List ℕ → Bool
descends [] ys = false
descends (x ∷ xs) [] = nat_lt 0 x || descends xs []
descends (x ∷ xs) (y ∷ ys) = nat_lt y x || (nat_eq x y && descends xs ys)

-- the first does not descend, and from there on none does
abbrev pub ascend_from : List ℕ → List (List ℕ) → Bool
ascend_from before [] = true
ascend_from before (os ∷ rest) = not (descends before os) && ascend_from os rest

-- The encodings exist, and none descends to the next: nothing descends to the first.
abbrev pub are_ascending : Option (List (List ℕ)) → Bool
are_ascending None = false
are_ascending (Some es) = ascend_from [] es

-- of an OF type: few enough elements, each of them fitting
abbrev pub fits_items : (AbstractValue → Bool) → Items → Bool
fits_items fit vs = are_few vs && every_fits fit vs

-- of a SET OF: their encodings ascend besides
abbrev pub fits_set : (AbstractValue → Bool) → (AbstractValue → Option (List ℕ)) → Items → Bool
fits_set fit encode vs = fits_items fit vs && are_ascending (item_encodings encode vs)

-- ---- all kinds

abbrev mutual
  pub fits : AbstractType → AbstractValue → Bool
  fits (type_of tags kind cons) v = fits_kind kind v

  pub fits_kind : AbstractKind → AbstractValue → Bool
  fits_kind type.boolean (value.boolean b) = true
  fits_kind type.boolean _ = false
  fits_kind (type.integer ns) (value.integer z) = fits_128_bits z
  fits_kind (type.integer ns) _ = false
  fits_kind (type.bit_string names) (value.bit_string os unused) = fits_bits os unused && ends_as_named names os unused
  fits_kind (type.bit_string names) _ = false
  fits_kind type.octet_string (value.octet_string os) = all_below 256 os
  fits_kind type.octet_string _ = false
  fits_kind type.null value.null = true
  fits_kind type.null _ = false
  fits_kind type.object_identifier (value.object_identifier arcs) = fits_arcs arcs
  fits_kind type.object_identifier _ = false
  fits_kind (type.enumerated ns) (value.enumerated z) = fits_128_bits z && is_item z ns
  fits_kind (type.enumerated ns) _ = false
  fits_kind (type.characters k) (value.characters cs) = fits_characters k cs
  fits_kind (type.characters k) _ = false
  fits_kind (type.sequence cs) (value.fields fs) = fits_fields cs fs
  fits_kind (type.sequence cs) _ = false
  fits_kind (type.set cs) (value.fields fs) = fits_fields cs fs
  fits_kind (type.set cs) _ = false
  fits_kind (type.choice cs) (value.chosen i v) = fits_alternative cs i v
  fits_kind (type.choice cs) _ = false
  fits_kind (type.sequence_of t) (value.items vs) = fits_items (fits t) vs
  fits_kind (type.sequence_of t) _ = false
  fits_kind (type.set_of t) (value.items vs) = fits_set (fits t) (der t) vs
  fits_kind (type.set_of t) _ = false

  -- a fitting value at each component, or none at an OPTIONAL one
  pub fits_fields : Components → Fields → Bool
  fits_fields no_components value.no_fields = true
  fits_fields (component name t presence rest) (value.present v fs) = fits t v && fits_fields rest fs
  fits_fields (component name t presence rest) (value.absent fs) = may_be_absent presence && fits_fields rest fs
  fits_fields _ _ = false

  -- a fitting value of the alternative at this place
  pub fits_alternative : Components → ℕ → AbstractValue → Bool
  fits_alternative no_components i v = false
  fits_alternative (component name t presence rest) zero v = fits t v
  fits_alternative (component name t presence rest) (suc i) v = fits_alternative rest i v

-- of one component: a fitting value, or none where none may be
abbrev pub fits_field : AbstractPresence → AbstractType → Option AbstractValue → Bool
fits_field presence t None = may_be_absent presence
fits_field presence t (Some v) = fits t v
