-- Breaches of worked examples, computed by reading.
use Rattle.std.specs.Prelude.{◌≡◌, ℕ, ◌-◌, ◌^◌, pos, negsuc, List, [], ◌∷◌, Result, Ok, Err, refl, codes}
use Rattle.guard_model.specs.declared.site.Step.{Step}
use Rattle.guard_model.specs.declared.site.Step.TheVariants.{Component, Element}
use Rattle.guard_model.specs.declared.tag.Class.TheVariants.{Application}
use Rattle.guard_model.specs.AbstractType as type
use Rattle.guard_model.specs.AbstractType.{AbstractType, NamedNumber, type_of, no_components, component, no_constraints}
use Rattle.guard_model.specs.AbstractValue as value
use Rattle.guard_model.specs.AbstractValue.{AbstractValue}
use Rattle.guard_der.specs.declared.breach.Code.{Code}
use Rattle.guard_der.specs.declared.breach.Code.TheVariants as code
use Rattle.guard_der.specs.Octets.{twos_complement}
use Rattle.guard_der.specs.Head.{number_from, high_number, tag_number, long_length, length_at, head_of}
use Rattle.guard_der.specs.Breach.{AbstractBreach}
use Rattle.guard_der.specs.Reading.{message_of, alone_at, due_at, element_at, contents_at, untagged_at, fields_at, part_at, tags_at, framed, simple_at, sent_at, component_at, end_at, chosen_at, item_alone, item_at, items_at}
use Rattle.guard_der.specs.rows.Rows.{universal, context, plain, number, order, order_value}

abbrev fault : Code → ℕ → List Step → Result AbstractValue AbstractBreach
fault c at path = Err (record { code = c; at = at; path = path })

-- a row that names this unfolds all that reading computes with
abbrev read : AbstractType → List ℕ → Result AbstractValue AbstractBreach
unfolding message_of alone_at due_at element_at contents_at untagged_at fields_at part_at tags_at framed simple_at
    sent_at component_at end_at chosen_at item_alone item_at items_at head_of tag_number high_number number_from
    length_at long_length twos_complement lib.Utf8.encode Rattle.std.specs.Str.chars Rattle.std.specs.Str.is_utf8
read t octets = message_of t octets

row1 : message_of order (0x30 ∷ 0x0B ∷ 0x80 ∷ 0x01 ∷ 0x05 ∷ 0x81 ∷ 0x01 ∷ 0x01 ∷ 0xA4 ∷ 0x03 ∷ 0x02 ∷ 0x01 ∷ 0x07 ∷ [])
    ≡ Ok (order_value (pos 1))
unfolding read
row1 = refl

row2 :
    message_of order
    (0x30 ∷ 0x0E ∷ 0x80 ∷ 0x01 ∷ 0x05 ∷ 0x81 ∷ 0x01 ∷ 0x00 ∷ 0x82 ∷ 0x01 ∷ 0x0B ∷ 0xA4 ∷ 0x03 ∷ 0x02 ∷ 0x01 ∷ 0x07 ∷ [])
    ≡ Ok (value.fields
    (value.present (value.integer (pos 5))
    (value.present (value.enumerated (pos 0))
    (value.present (value.integer (pos 11))
    (value.absent (value.present (value.items (value.item (value.integer (pos 7)) value.no_items)) value.no_fields))))))
unfolding read
row2 = refl

row3 :
    message_of order
    (0x30 ∷ 0x0E ∷ 0x80 ∷ 0x01 ∷ 0x05 ∷ 0x81 ∷ 0x01 ∷ 0x01 ∷ 0x82 ∷ 0x01 ∷ 0x01 ∷ 0xA4 ∷ 0x03 ∷ 0x02 ∷ 0x01 ∷ 0x07 ∷ [])
    ≡ fault code.DefaultPresent 8 (Component 2 ∷ [])
unfolding read
row3 = refl

row4 : message_of order (0x30 ∷ 0x06 ∷ 0x80 ∷ 0x01 ∷ 0x05 ∷ 0x81 ∷ 0x01 ∷ 0x01 ∷ [])
    ≡ fault code.MissingComponent 8 (Component 4 ∷ [])
unfolding read
row4 = refl

row5 : message_of order (0x30 ∷ 0x0B ∷ 0x80 ∷ 0x01 ∷ 0x05 ∷ 0x81 ∷ 0x01 ∷ 0x01 ∷ 0xA5 ∷ 0x03 ∷ 0x02 ∷ 0x01 ∷ 0x07 ∷ [])
    ≡ fault code.UnexpectedTag 8 ([])
unfolding read
row5 = refl

row6 : message_of order (0x30 ∷ 0x0B ∷ 0x80 ∷ 0x01 ∷ 0x05 ∷ 0x81 ∷ 0x01 ∷ 0x02 ∷ 0xA4 ∷ 0x03 ∷ 0x02 ∷ 0x01 ∷ 0x07 ∷ [])
    ≡ fault code.UnknownEnumeration 5 (Component 1 ∷ [])
unfolding read
row6 = refl

row7 : message_of order ([]) ≡ fault code.Truncated 0 ([])
unfolding read
row7 = refl

row8 :
    message_of order
    (0x30 ∷ 0x0B ∷ 0x80 ∷ 0x01 ∷ 0x05 ∷ 0x81 ∷ 0x01 ∷ 0x01 ∷ 0xA4 ∷ 0x03 ∷ 0x02 ∷ 0x01 ∷ 0x07 ∷ 0x00 ∷ [])
    ≡ fault code.TrailingOctets 13 ([])
unfolding read
row8 = refl

row9 : message_of order (0x30 ∷ 0x0B ∷ 0x80 ∷ 0x01 ∷ 0x05 ∷ 0x81 ∷ 0x01 ∷ 0x01 ∷ 0xA4 ∷ 0x03 ∷ 0x02 ∷ 0x01 ∷ [])
    ≡ fault code.Truncated 0 ([])
unfolding read
row9 = refl

row10 :
    message_of order
    (0x30 ∷ 0x81 ∷ 0x0B ∷ 0x80 ∷ 0x01 ∷ 0x05 ∷ 0x81 ∷ 0x01 ∷ 0x01 ∷ 0xA4 ∷ 0x03 ∷ 0x02 ∷ 0x01 ∷ 0x07 ∷ [])
    ≡ fault code.NonMinimalLength 0 ([])
unfolding read
row10 = refl

row11 : message_of order (0x30 ∷ 0x80 ∷ 0x80 ∷ 0x01 ∷ 0x05 ∷ 0x81 ∷ 0x01 ∷ 0x01 ∷ 0xA4 ∷ 0x03 ∷ 0x02 ∷ 0x01 ∷ 0x07 ∷ [])
    ≡ fault code.IndefiniteLength 0 ([])
unfolding read
row11 = refl

row12 : message_of order (0x30 ∷ 0x85 ∷ 0x00 ∷ 0x00 ∷ 0x00 ∷ 0x00 ∷ 0x00 ∷ []) ≡ fault code.LengthTooLarge 0 ([])
unfolding read
row12 = refl

row13 :
    message_of (type_of (context 1 ∷ [])
    (type.choice (component (codes "a") (plain (context 0) (type.integer [])) type.mandatory no_components))
    no_constraints) (0xA1 ∷ 0x03 ∷ 0x80 ∷ 0x01 ∷ 0x05 ∷ [])
    ≡ Ok (value.chosen 0 (value.integer (pos 5)))
unfolding read
row13 = refl

row14 :
    message_of (type_of (context 1 ∷ [])
    (type.choice (component (codes "a") (plain (context 0) (type.integer [])) type.mandatory no_components))
    no_constraints) (0x81 ∷ 0x01 ∷ 0x05 ∷ [])
    ≡ fault code.WrongForm 0 ([])
unfolding read
row14 = refl

row19 :
    message_of (plain (universal 17) (type.set_of number)) (0x31 ∷ 0x06 ∷ 0x02 ∷ 0x01 ∷ 0x01 ∷ 0x02 ∷ 0x01 ∷ 0xFF ∷ [])
    ≡ Ok (value.items (value.item (value.integer (pos 1)) (value.item (value.integer (negsuc 0)) value.no_items)))
unfolding read
row19 = refl

row20 :
    message_of (plain (universal 17) (type.set_of number)) (0x31 ∷ 0x06 ∷ 0x02 ∷ 0x01 ∷ 0xFF ∷ 0x02 ∷ 0x01 ∷ 0x01 ∷ [])
    ≡ fault code.SetOfOrder 5 (Element 1 ∷ [])
unfolding read
row20 = refl

row21 :
    message_of (plain (universal 17) (type.set_of number)) (0x31 ∷ 0x06 ∷ 0x02 ∷ 0x01 ∷ 0x01 ∷ 0x02 ∷ 0x01 ∷ 0x01 ∷ [])
    ≡ Ok (value.items (value.item (value.integer (pos 1)) (value.item (value.integer (pos 1)) value.no_items)))
unfolding read
row21 = refl

row22 :
    message_of number
    (0x02 ∷ 0x10 ∷ 0x80 ∷ 0x00 ∷ 0x00 ∷ 0x00 ∷ 0x00 ∷ 0x00 ∷ 0x00 ∷ 0x00 ∷ 0x00 ∷ 0x00 ∷ 0x00 ∷ 0x00 ∷ 0x00 ∷ 0x00
    ∷ 0x00 ∷ 0x00 ∷ [])
    ≡ Ok (value.integer (negsuc (2 ^ 127 - 1)))
unfolding read
row22 = refl

row23 :
    message_of number
    (0x02 ∷ 0x11 ∷ 0x00 ∷ 0x80 ∷ 0x00 ∷ 0x00 ∷ 0x00 ∷ 0x00 ∷ 0x00 ∷ 0x00 ∷ 0x00 ∷ 0x00 ∷ 0x00 ∷ 0x00 ∷ 0x00 ∷ 0x00
    ∷ 0x00 ∷ 0x00 ∷ 0x00 ∷ [])
    ≡ fault code.IntegerTooLong 0 ([])
unfolding read
row23 = refl

row24 : message_of number (0x02 ∷ 0x02 ∷ 0x00 ∷ 0x01 ∷ []) ≡ fault code.IntegerContents 0 ([])
unfolding read
row24 = refl

row25 : message_of number (0x02 ∷ 0x00 ∷ []) ≡ fault code.IntegerContents 0 ([])
unfolding read
row25 = refl

row26 : message_of number (0x22 ∷ 0x03 ∷ 0x02 ∷ 0x01 ∷ 0x05 ∷ []) ≡ fault code.WrongForm 0 ([])
unfolding read
row26 = refl

row27 : message_of (plain (universal 6) type.object_identifier) (0x06 ∷ 0x03 ∷ 0x88 ∷ 0x37 ∷ 0x03 ∷ [])
    ≡ Ok (value.object_identifier (2 ∷ 999 ∷ 3 ∷ []))
unfolding read
row27 = refl

row28 : message_of (plain (universal 6) type.object_identifier) (0x06 ∷ 0x04 ∷ 0x80 ∷ 0x88 ∷ 0x37 ∷ 0x03 ∷ [])
    ≡ fault code.ObjectIdContents 0 ([])
unfolding read
row28 = refl

row29 : message_of (plain (universal 6) type.object_identifier) (0x06 ∷ 0x00 ∷ []) ≡ fault code.ObjectIdContents 0 ([])
unfolding read
row29 = refl

row30 : message_of (plain (universal 6) type.object_identifier) (0x06 ∷ 0x01 ∷ 0x88 ∷ [])
    ≡ fault code.ObjectIdContents 0 ([])
unfolding read
row30 = refl

row31 :
    message_of (plain (universal 6) type.object_identifier)
    (0x06 ∷ 0x13 ∷ 0x83 ∷ 0xFF ∷ 0xFF ∷ 0xFF ∷ 0xFF ∷ 0xFF ∷ 0xFF ∷ 0xFF ∷ 0xFF ∷ 0xFF ∷ 0xFF ∷ 0xFF ∷ 0xFF ∷ 0xFF
    ∷ 0xFF ∷ 0xFF ∷ 0xFF ∷ 0xFF ∷ 0x7F ∷ [])
    ≡ Ok (value.object_identifier (2 ∷ 340282366920938463463374607431768211375 ∷ []))
unfolding read
row31 = refl

row32 :
    message_of (plain (universal 6) type.object_identifier)
    (0x06 ∷ 0x13 ∷ 0x84 ∷ 0x80 ∷ 0x80 ∷ 0x80 ∷ 0x80 ∷ 0x80 ∷ 0x80 ∷ 0x80 ∷ 0x80 ∷ 0x80 ∷ 0x80 ∷ 0x80 ∷ 0x80 ∷ 0x80
    ∷ 0x80 ∷ 0x80 ∷ 0x80 ∷ 0x80 ∷ 0x00 ∷ [])
    ≡ fault code.ObjectIdTooLong 0 ([])
unfolding read
row32 = refl

row33 : message_of (plain (universal 3) (type.bit_string [])) (0x03 ∷ 0x02 ∷ 0x05 ∷ 0xA0 ∷ [])
    ≡ Ok (value.bit_string (0xA0 ∷ []) 5)
unfolding read
row33 = refl

row34 : message_of (plain (universal 3) (type.bit_string [])) (0x03 ∷ 0x02 ∷ 0x05 ∷ 0xA1 ∷ [])
    ≡ fault code.UnusedBits 0 ([])
unfolding read
row34 = refl

row35 : message_of (plain (universal 3) (type.bit_string [])) (0x03 ∷ 0x00 ∷ []) ≡ fault code.BitStringContents 0 ([])
unfolding read
row35 = refl

row36 : message_of (plain (universal 3) (type.bit_string [])) (0x03 ∷ 0x01 ∷ 0x08 ∷ [])
    ≡ fault code.BitStringContents 0 ([])
unfolding read
row36 = refl

row37 : message_of (plain (universal 3) (type.bit_string [])) (0x03 ∷ 0x01 ∷ 0x01 ∷ [])
    ≡ fault code.BitStringContents 0 ([])
unfolding read
row37 = refl

row38 : message_of (plain (universal 5) type.null) (0x05 ∷ 0x00 ∷ []) ≡ Ok value.null
unfolding read
row38 = refl

row39 : message_of (plain (universal 5) type.null) (0x05 ∷ 0x01 ∷ 0x00 ∷ []) ≡ fault code.NullContents 0 ([])
unfolding read
row39 = refl

row40 :
    message_of (plain (record { class = Application; number = 40 }) (type.integer [])) (0x5F ∷ 0x28 ∷ 0x01 ∷ 0x05 ∷ [])
    ≡ Ok (value.integer (pos 5))
unfolding read
row40 = refl

row41 :
    message_of (plain (record { class = Application; number = 40 }) (type.integer [])) (0x5F ∷ 0x1E ∷ 0x01 ∷ 0x05 ∷ [])
    ≡ fault code.TagForm 0 ([])
unfolding read
row41 = refl

row42 :
    message_of (type_of (context 0 ∷ universal 2 ∷ []) (type.integer []) no_constraints)
    (0xA0 ∷ 0x03 ∷ 0x02 ∷ 0x01 ∷ 0x05 ∷ [])
    ≡ Ok (value.integer (pos 5))
unfolding read
row42 = refl

row43 :
    message_of (type_of (context 0 ∷ universal 2 ∷ []) (type.integer []) no_constraints)
    (0xA0 ∷ 0x06 ∷ 0x02 ∷ 0x01 ∷ 0x05 ∷ 0x02 ∷ 0x01 ∷ 0x06 ∷ [])
    ≡ fault code.TrailingOctets 5 ([])
unfolding read
row43 = refl

row44 : message_of (type_of (context 0 ∷ universal 2 ∷ []) (type.integer []) no_constraints) (0xA0 ∷ 0x00 ∷ [])
    ≡ fault code.Truncated 2 ([])
unfolding read
row44 = refl

-- ---- named bits

abbrev named_bit : List ℕ → ℕ → NamedNumber
named_bit name bit = record { name = name; number = pos bit }

-- BIT STRING {read(0), write(1), run(5)}
abbrev flags : AbstractType
flags =
    plain (universal 3)
    (type.bit_string (named_bit (codes "read") 0 ∷ named_bit (codes "write") 1 ∷ named_bit (codes "run") 5 ∷ []))

row45 : message_of flags (0x03 ∷ 0x02 ∷ 0x02 ∷ 0x84 ∷ []) ≡ Ok (value.bit_string (0x84 ∷ []) 2)
unfolding read
row45 = refl

row46 : message_of flags (0x03 ∷ 0x01 ∷ 0x00 ∷ []) ≡ Ok (value.bit_string [] 0)
unfolding read
row46 = refl

row47 : message_of flags (0x03 ∷ 0x02 ∷ 0x05 ∷ 0x20 ∷ []) ≡ Ok (value.bit_string (0x20 ∷ []) 5)
unfolding read
row47 = refl

row48 : message_of flags (0x03 ∷ 0x02 ∷ 0x01 ∷ 0x84 ∷ []) ≡ fault code.TrailingZeroBit 0 ([])
unfolding read
row48 = refl

row49 : message_of flags (0x03 ∷ 0x02 ∷ 0x00 ∷ 0x80 ∷ []) ≡ fault code.TrailingZeroBit 0 ([])
unfolding read
row49 = refl

row50 : message_of flags (0x03 ∷ 0x03 ∷ 0x07 ∷ 0x80 ∷ 0x00 ∷ []) ≡ fault code.TrailingZeroBit 0 ([])
unfolding read
row50 = refl

row51 : message_of flags (0x03 ∷ 0x02 ∷ 0x02 ∷ 0x85 ∷ []) ≡ fault code.UnusedBits 0 ([])
unfolding read
row51 = refl

row52 : message_of flags (0x03 ∷ 0x01 ∷ 0x08 ∷ []) ≡ fault code.BitStringContents 0 ([])
unfolding read
row52 = refl

-- without a list of names the trailing zero bits are bits of the value
row53 : message_of (plain (universal 3) (type.bit_string [])) (0x03 ∷ 0x02 ∷ 0x00 ∷ 0x80 ∷ [])
    ≡ Ok (value.bit_string (0x80 ∷ []) 0)
unfolding read
row53 = refl
