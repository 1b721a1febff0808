-- Worked examples, computed from the definitions.
use Rattle.std.specs.Prelude.{◌≡◌, ℕ, ◌-◌, ◌^◌, ℤ, pos, negsuc, true, false, [], ◌∷◌, ◌++◌, Some, refl, codes, replicate}
use Rattle.guard_model.specs.declared.tag.Class.TheVariants.{Universal, Application, Context}
use Rattle.guard_model.specs.declared.tag.Tag.{Tag}
use Rattle.guard_model.specs.declared.ty.CharKind.TheVariants.{Utf8}
use Rattle.guard_model.specs.AbstractType as type
use Rattle.guard_model.specs.AbstractType.{AbstractType, AbstractKind, type_of, no_components, component, no_constraints}
use Rattle.guard_model.specs.AbstractValue as value
use Rattle.guard_model.specs.AbstractValue.{AbstractValue}
use Rattle.guard_der.specs.Octets.{fewest, unsigned_octets, signed_octets, base_128}
use Rattle.guard_der.specs.Element.{identifier_octets, length_octets, element}
use Rattle.guard_der.specs.Der.{der}
use Rattle.guard_der.specs.Fits.{fits}
use Rattle.guard_der.specs.Sound.{is_sound}

abbrev pub universal : ℕ → Tag
universal n = record { class = Universal; number = n }

abbrev pub context : ℕ → Tag
context n = record { class = Context; number = n }

abbrev pub plain : Tag → AbstractKind → AbstractType
plain t k = type_of (t ∷ []) k no_constraints

abbrev pub number : AbstractType
number = plain (universal 2) (type.integer [])

abbrev pub ping : AbstractType
ping = plain (universal 16) (type.sequence
    (component (codes "level") number type.mandatory
    (component (codes "urgent") (plain (universal 1) type.boolean) type.mandatory no_components)))

urgent_ping :
    der ping (value.fields (value.present (value.integer (pos 5)) (value.present (value.boolean true) value.no_fields)))
    ≡ Some (0x30 ∷ 0x06 ∷ 0x02 ∷ 0x01 ∷ 0x05 ∷ 0x01 ∷ 0x01 ∷ 0xFF ∷ [])
unfolding fewest unsigned_octets signed_octets base_128 identifier_octets length_octets element
urgent_ping = refl

least : der number (value.integer (negsuc (2 ^ 127 - 1))) ≡ Some (0x02 ∷ 0x10 ∷ 0x80 ∷ replicate 15 0)
unfolding fewest unsigned_octets signed_octets base_128 identifier_octets length_octets element
least = refl

high_tag : der (plain (record { class = Application; number = 40 }) (type.integer [])) (value.integer (pos 5))
    ≡ Some (0x5F ∷ 0x28 ∷ 0x01 ∷ 0x05 ∷ [])
unfolding fewest unsigned_octets signed_octets base_128 identifier_octets length_octets element
high_tag = refl

-- ---- OBJECT IDENTIFIER, strings

three_arcs : der (plain (universal 6) type.object_identifier) (value.object_identifier (2 ∷ 999 ∷ 3 ∷ []))
    ≡ Some (0x06 ∷ 0x03 ∷ 0x88 ∷ 0x37 ∷ 0x03 ∷ [])
unfolding fewest unsigned_octets signed_octets base_128 identifier_octets length_octets element
three_arcs = refl

greatest_arc :
    der (plain (universal 6) type.object_identifier)
    (value.object_identifier (2 ∷ 340282366920938463463374607431768211375 ∷ []))
    ≡ Some (0x06 ∷ 0x13 ∷ 0x83 ∷ (replicate 17 0xFF ++ 0x7F ∷ []))
unfolding fewest unsigned_octets signed_octets base_128 identifier_octets length_octets element
greatest_arc = refl

fits_greatest_arc :
    fits (plain (universal 6) type.object_identifier)
    (value.object_identifier (2 ∷ 340282366920938463463374607431768211375 ∷ []))
    ≡ true
fits_greatest_arc = refl

past_greatest_arc :
    fits (plain (universal 6) type.object_identifier)
    (value.object_identifier (2 ∷ 340282366920938463463374607431768211376 ∷ []))
    ≡ false
past_greatest_arc = refl

bits : der (plain (universal 3) (type.bit_string [])) (value.bit_string (0xA0 ∷ []) 5)
    ≡ Some (0x03 ∷ 0x02 ∷ 0x05 ∷ 0xA0 ∷ [])
unfolding fewest unsigned_octets signed_octets base_128 identifier_octets length_octets element
bits = refl

fits_bits : fits (plain (universal 3) (type.bit_string [])) (value.bit_string (0xA0 ∷ []) 5) ≡ true
fits_bits = refl

unused_bits : fits (plain (universal 3) (type.bit_string [])) (value.bit_string (0xA1 ∷ []) 5) ≡ false
unused_bits = refl

unused_nothing : fits (plain (universal 3) (type.bit_string [])) (value.bit_string [] 1) ≡ false
unused_nothing = refl

-- BIT STRING {a(0)}
abbrev named_bits : AbstractType
named_bits = plain (universal 3) (type.bit_string (record { name = codes "a"; number = pos 0 } ∷ []))

fits_last_bit : fits named_bits (value.bit_string (0xA0 ∷ []) 5) ≡ true
fits_last_bit = refl

fits_no_bits : fits named_bits (value.bit_string [] 0) ≡ true
fits_no_bits = refl

trailing_zero : fits named_bits (value.bit_string (0xA0 ∷ []) 4) ≡ false
trailing_zero = refl

trailing_octet : fits named_bits (value.bit_string (0x80 ∷ 0x00 ∷ []) 0) ≡ false
trailing_octet = refl

nothing : der (plain (universal 5) type.null) value.null ≡ Some (0x05 ∷ 0x00 ∷ [])
unfolding fewest unsigned_octets signed_octets base_128 identifier_octets length_octets element
nothing = refl

accent : der (plain (universal 12) (type.characters Utf8)) (value.characters (0xE9 ∷ []))
    ≡ Some (0x0C ∷ 0x02 ∷ 0xC3 ∷ 0xA9 ∷ [])
unfolding fewest unsigned_octets signed_octets base_128 identifier_octets length_octets element lib.Utf8.encode
accent = refl

-- ---- tags

wrapped : der (type_of (context 0 ∷ universal 2 ∷ []) (type.integer []) no_constraints) (value.integer (pos 5))
    ≡ Some (0xA0 ∷ 0x03 ∷ 0x02 ∷ 0x01 ∷ 0x05 ∷ [])
unfolding fewest unsigned_octets signed_octets base_128 identifier_octets length_octets element
wrapped = refl

wrapped_choice :
    der (type_of (context 1 ∷ [])
    (type.choice (component (codes "a") (plain (context 0) (type.integer [])) type.mandatory no_components))
    no_constraints) (value.chosen 0 (value.integer (pos 5)))
    ≡ Some (0xA1 ∷ 0x03 ∷ 0x80 ∷ 0x01 ∷ 0x05 ∷ [])
unfolding fewest unsigned_octets signed_octets base_128 identifier_octets length_octets element
wrapped_choice = refl

-- ---- SEQUENCE

abbrev pub kinds : AbstractKind
kinds = type.enumerated (record { name = codes "buy"; number = pos 0 } ∷ record {
  name = codes "sell";
  number =
      pos 1;
} ∷ [])

abbrev pub order : AbstractType
order = plain (universal 16) (type.sequence
    (component (codes "id") (plain (context 0) (type.integer [])) type.mandatory
    (component (codes "kind") (plain (context 1) kinds) type.mandatory
    (component (codes "qty") (plain (context 2) (type.integer [])) (type.default (value.integer (pos 1)))
    (component (codes "note") (plain (context 3) (type.characters Utf8)) type.optional
    (component (codes "lines") (plain (context 4) (type.sequence_of number)) type.mandatory no_components))))))

abbrev pub order_value : ℤ → AbstractValue
order_value qty = value.fields
    (value.present (value.integer (pos 5)) (value.present (value.enumerated (pos 1)) (value.present (value.integer qty)
    (value.absent (value.present (value.items (value.item (value.integer (pos 7)) value.no_items)) value.no_fields)))))

default_left_out : der order (order_value (pos 1))
    ≡ Some (0x30 ∷ 0x0B ∷ 0x80 ∷ 0x01 ∷ 0x05 ∷ 0x81 ∷ 0x01 ∷ 0x01 ∷ 0xA4 ∷ 0x03 ∷ 0x02 ∷ 0x01 ∷ 0x07 ∷ [])
unfolding fewest unsigned_octets signed_octets base_128 identifier_octets length_octets element
default_left_out = refl

default_changed : der order (order_value (pos 11))
    ≡ Some (0x30 ∷ 0x0E ∷ 0x80 ∷ 0x01 ∷ 0x05 ∷ 0x81 ∷ 0x01 ∷ 0x01 ∷ 0x82 ∷ 0x01 ∷ 0x0B ∷ 0xA4 ∷ 0x03 ∷ 0x02 ∷ 0x01
    ∷ 0x07 ∷ [])
unfolding fewest unsigned_octets signed_octets base_128 identifier_octets length_octets element
default_changed = refl

clashing :
    is_sound (plain (universal 16)
    (type.sequence
    (component (codes "a") number type.optional (component (codes "b") number type.mandatory no_components))))
    ≡ false
clashing = refl

apart :
    is_sound (plain (universal 16)
    (type.sequence
    (component (codes "a") (plain (universal 1) type.boolean) type.optional
    (component (codes "b") number type.mandatory no_components))))
    ≡ true
apart = refl

-- ---- SET

abbrev pub set_with_choice : AbstractType
set_with_choice = plain (universal 17) (type.set
    (component (codes "a") (plain (universal 1) type.boolean) type.mandatory
    (component (codes "c")
    (type_of [] (type.choice
    (component (codes "x") (plain (context 2) (type.integer [])) type.mandatory
    (component (codes "y") (plain (context 0) type.null) type.mandatory no_components))) no_constraints) type.mandatory
    (component (codes "d") (plain (context 1) type.null) type.mandatory no_components))))

in_order_of_tags :
    der set_with_choice
    (value.fields (value.present (value.boolean true)
    (value.present (value.chosen 0 (value.integer (pos 5))) (value.present value.null value.no_fields))))
    ≡ Some (0x31 ∷ 0x08 ∷ 0x01 ∷ 0x01 ∷ 0xFF ∷ 0x81 ∷ 0x00 ∷ 0x82 ∷ 0x01 ∷ 0x05 ∷ [])
unfolding fewest unsigned_octets signed_octets base_128 identifier_octets length_octets element
in_order_of_tags = refl

by_the_chosen_tag :
    der set_with_choice
    (value.fields (value.present (value.boolean true)
    (value.present (value.chosen 1 value.null) (value.present value.null value.no_fields))))
    ≡ Some (0x31 ∷ 0x07 ∷ 0x01 ∷ 0x01 ∷ 0xFF ∷ 0x80 ∷ 0x00 ∷ 0x81 ∷ 0x00 ∷ [])
unfolding fewest unsigned_octets signed_octets base_128 identifier_octets length_octets element
by_the_chosen_tag = refl

-- ---- SET OF

abbrev pub numbers : AbstractType
numbers = plain (universal 17) (type.set_of number)

abbrev pub two : ℤ → ℤ → AbstractValue
two a b = value.items (value.item (value.integer a) (value.item (value.integer b) value.no_items))

one_first : der numbers (two (pos 1) (negsuc 0)) ≡ Some (0x31 ∷ 0x06 ∷ 0x02 ∷ 0x01 ∷ 0x01 ∷ 0x02 ∷ 0x01 ∷ 0xFF ∷ [])
unfolding fewest unsigned_octets signed_octets base_128 identifier_octets length_octets element
one_first = refl

fits_one_first : fits numbers (two (pos 1) (negsuc 0)) ≡ true
unfolding fewest unsigned_octets signed_octets base_128 identifier_octets length_octets element
fits_one_first = refl

minus_one_first : fits numbers (two (negsuc 0) (pos 1)) ≡ false
unfolding fewest unsigned_octets signed_octets base_128 identifier_octets length_octets element
minus_one_first = refl

twice : fits numbers (two (pos 1) (pos 1)) ≡ true
unfolding fewest unsigned_octets signed_octets base_128 identifier_octets length_octets element
twice = refl
