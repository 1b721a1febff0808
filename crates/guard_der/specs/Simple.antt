-- What the contents octets of a simple kind say, and what is wrong with them.
use Rattle.std.specs.Prelude.{ℕ, ◌+◌, ◌-◌, ◌*◌, ◌^◌, Bool, true, false, not, ◌&&◌, ◌||◌, List, [], ◌∷◌, length, nat_lt, nat_le, nat_eq, Option, Some, None, if◌then◌else◌}
use Rattle.std.specs.Str.{is_utf8, chars}
use Rattle.guard_model.specs.declared.ty.CharKind.{CharKind}
use Rattle.guard_model.specs.declared.ty.CharKind.TheVariants.{Numeric, Printable, Ia5, Visible, Utf8}
use Rattle.guard_model.specs.AbstractType as type
use Rattle.guard_model.specs.AbstractType.{AbstractKind, NamedNumber}
use Rattle.guard_model.specs.AbstractValue as value
use Rattle.guard_model.specs.AbstractValue.{AbstractValue}
use Rattle.guard_der.specs.declared.breach.Code.{Code}
use Rattle.guard_der.specs.declared.breach.Code.TheVariants as code
use Rattle.guard_der.specs.Octets.{twos_complement}
use Rattle.guard_der.specs.Fits.{all_below, has_proper_end, has_zero_end, ends_as_named}
use Rattle.guard_model.specs.NamedLists.{is_item}
use Rattle.guard_model.specs.Alphabets.{all_characters}

-- A BOOLEAN is 00 or FF (X.690 8.2, 11.1).
abbrev pub boolean_fault : List ℕ → Option Code
boolean_fault (o ∷ []) = if nat_eq o 0 || nat_eq o 255 then None else Some code.BooleanContents
boolean_fault _ = Some code.BooleanContents

abbrev pub boolean_of : List ℕ → Bool
boolean_of [] = false
boolean_of (o ∷ os) = not (nat_eq o 0)

-- the first nine bits are equal (X.690 8.3.2)
abbrev pub nine_equal : List ℕ → Bool
nine_equal (a ∷ b ∷ os) = (nat_eq a 0 && nat_lt b 128) || (nat_eq a 255 && nat_le 128 b)
nine_equal _ = false

-- An INTEGER has at least one octet, and in this profile at most sixteen (X.690 8.3).
abbrev pub integer_fault : List ℕ → Option Code
integer_fault [] = Some code.IntegerContents
integer_fault (o ∷ os) =
    if nine_equal (o ∷ os) then Some code.IntegerContents
    else if nat_lt 16 (length (o ∷ os)) then Some code.IntegerTooLong
    else None

-- An ENUMERATED is an INTEGER, the number of an item (X.690 8.4).
abbrev pub enumerated_fault : List NamedNumber → List ℕ → Option Code
enumerated_fault items os = elim (integer_fault os) [
  | Some c ↦ Some c
  | None ↦ if is_item (twos_complement os) items then None else Some code.UnknownEnumeration
]

-- The first octet is the count of unused bits (X.690 8.6.2), which are zero (11.2.1). Where bits are named, the last
-- one is not (11.2.2).
abbrev pub bits_fault : List NamedNumber → List ℕ → Option Code
bits_fault names [] = Some code.BitStringContents
bits_fault names (unused ∷ os) =
    if not (has_proper_end os unused) then Some code.BitStringContents
    else if not (has_zero_end os unused) then Some code.UnusedBits
    else if not (ends_as_named names os unused) then Some code.TrailingZeroBit
    else None

abbrev pub bits_of : List ℕ → AbstractValue
bits_of [] = value.bit_string [] 0
bits_of (unused ∷ os) = value.bit_string os unused

-- A NULL has no contents (X.690 8.8.2).
abbrev pub null_fault : List ℕ → Option Code
null_fault [] = None
null_fault (o ∷ os) = Some code.NullContents

-- Bit 8 is set on each octet of a subidentifier but its last; its first is not 80 (X.690 8.19.2). `starts`: the next
-- octet is a first one.
abbrev pub are_subidentifiers : Bool → List ℕ → Bool
are_subidentifiers starts [] = starts
are_subidentifiers starts (o ∷ os) = not (starts && nat_eq o 128) && are_subidentifiers (nat_lt o 128) os

-- The numbers that they spell to the base 128; n is what the first one spelled so far.
abbrev pub subidentifiers : ℕ → List ℕ → List ℕ
subidentifiers n [] = []
subidentifiers n (o ∷ os) =
    if nat_lt o 128
    then (n * 128 + o) ∷ subidentifiers 0 os
    else subidentifiers (n * 128 + (o - 128)) os

-- The first subidentifier is 40X + Y (X.690 8.19.4).
abbrev pub arcs_of : List ℕ → List ℕ
arcs_of [] = []
arcs_of (s ∷ rest) =
    if nat_lt s 40 then 0 ∷ s ∷ rest
    else if nat_lt s 80 then 1 ∷ (s - 40) ∷ rest
    else 2 ∷ (s - 80) ∷ rest

abbrev pub object_id_fault : List ℕ → Option Code
object_id_fault os =
    if not (nat_eq (length os) 0) && are_subidentifiers true os
    then (if all_below (2 ^ 128) (subidentifiers 0 os) then None else Some code.ObjectIdTooLong)
    else Some code.ObjectIdContents

-- UTF8String is UTF-8, the other kinds have one octet of their alphabet for each character (X.690 8.23).
abbrev pub is_text : CharKind → List ℕ → Bool
is_text Utf8 os = is_utf8 os
is_text Numeric os = all_characters Numeric os
is_text Printable os = all_characters Printable os
is_text Ia5 os = all_characters Ia5 os
is_text Visible os = all_characters Visible os

abbrev pub characters_fault : CharKind → List ℕ → Option Code
characters_fault k os = if is_text k os then None else Some code.Characters

abbrev pub characters_of : CharKind → List ℕ → List ℕ
characters_of Utf8 os = chars os
characters_of _ os = os

-- ---- all of them

abbrev pub simple_fault : AbstractKind → List ℕ → Option Code
simple_fault type.boolean os = boolean_fault os
simple_fault (type.integer ns) os = integer_fault os
simple_fault (type.bit_string names) os = bits_fault names os
simple_fault type.octet_string os = None
simple_fault type.null os = null_fault os
simple_fault type.object_identifier os = object_id_fault os
simple_fault (type.enumerated ns) os = enumerated_fault ns os
simple_fault (type.characters k) os = characters_fault k os
-- no simple kinds
simple_fault (type.sequence cs) os = None
simple_fault (type.set cs) os = None
simple_fault (type.choice cs) os = None
simple_fault (type.sequence_of t) os = None
simple_fault (type.set_of t) os = None

abbrev pub simple_value : AbstractKind → List ℕ → AbstractValue
simple_value type.boolean os = value.boolean (boolean_of os)
simple_value (type.integer ns) os = value.integer (twos_complement os)
simple_value (type.bit_string names) os = bits_of os
simple_value type.octet_string os = value.octet_string os
simple_value type.null os = value.null
simple_value type.object_identifier os = value.object_identifier (arcs_of (subidentifiers 0 os))
simple_value (type.enumerated ns) os = value.enumerated (twos_complement os)
simple_value (type.characters k) os = value.characters (characters_of k os)
-- no simple kinds
simple_value (type.sequence cs) os = value.null
simple_value (type.set cs) os = value.null
simple_value (type.choice cs) os = value.null
simple_value (type.sequence_of t) os = value.null
simple_value (type.set_of t) os = value.null
