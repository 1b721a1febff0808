-- Worked examples of constraints that a type may have, and of those that it may not, computed from the definitions.
use Rattle.std.specs.Prelude.{◌≡◌, ℕ, pos, true, false, [], ◌∷◌, codes, None, refl}
use Rattle.guard_model.specs.declared.ty.CharKind.TheVariants.{Numeric, Utf8}
use Rattle.guard_model.specs.declared.ty.Limit.TheVariants.{At, Free}
use Rattle.guard_model.specs.AbstractType as type
use Rattle.guard_model.specs.AbstractType.{AbstractType, AbstractKind, Constraint, Element, type_of, no_components, component}
use Rattle.guard_model.specs.AbstractValue as value
use Rattle.guard_model.specs.SameBase.{no_site}
use Rattle.guard_der.specs.Octets.{fewest, unsigned_octets, signed_octets, base_128}
use Rattle.guard_der.specs.Element.{identifier_octets, length_octets, element}
use Rattle.guard_der.specs.rows.Rows.{universal, context, plain, number, ping, kinds}
use Rattle.guard_der.specs.Sound.{is_sound}

abbrev only : AbstractType → Element → AbstractType
only (type_of tags kind cons) e = type_of tags kind (type.constraint (type.at no_site e) type.no_constraints)

abbrev truth : AbstractType
truth = plain (universal 1) type.boolean

abbrev octets : AbstractType
octets = plain (universal 4) type.octet_string

abbrev digits : AbstractType
digits = plain (universal 18) (type.characters Numeric)

abbrev numbers : AbstractType
numbers = plain (universal 16) (type.sequence_of number)

abbrev up_to_five : Constraint
up_to_five = type.at no_site (type.range Free (At (pos 5)))

-- BOOLEAN (SIZE (MIN..5)) and OCTET STRING (SIZE (MIN..5))
boolean_size : is_sound (only truth (type.size up_to_five)) ≡ false
boolean_size = refl

octet_size : is_sound (only octets (type.size up_to_five)) ≡ true
octet_size = refl

-- a size has no size
size_of_size : is_sound (only octets (type.size (type.at no_site (type.size up_to_five)))) ≡ false
size_of_size = refl

-- INTEGER (FROM ("0".."9")) and NumericString (FROM ("0".."9"))
alphabet_of_number : is_sound (only number (type.permitted_alphabet ((48, 57) ∷ []))) ≡ false
alphabet_of_number = refl

alphabet_of_digits : is_sound (only digits (type.permitted_alphabet ((48, 57) ∷ []))) ≡ true
alphabet_of_digits = refl

-- INTEGER (TRUE) and INTEGER (5)
truth_of_number : is_sound (only number (type.single_value (value.boolean true))) ≡ false
truth_of_number = refl

five_of_number : is_sound (only number (type.single_value (value.integer (pos 5)))) ≡ true
unfolding fewest unsigned_octets signed_octets base_128 identifier_octets length_octets element
five_of_number = refl

-- INTEGER (INCLUDES BOOLEAN) and INTEGER (INCLUDES [0] IMPLICIT INTEGER)
another_base : is_sound (only number (type.contained_subtype truth)) ≡ false
another_base = refl

the_same_base : is_sound (only number (type.contained_subtype (plain (context 0) (type.integer [])))) ≡ true
the_same_base = refl

-- a contained type that isn't sound
contained_fault : is_sound (only number (type.contained_subtype (only number (type.size up_to_five)))) ≡ false
contained_fault = refl

-- SEQUENCE OF INTEGER (WITH COMPONENT (MIN..5)), SEQUENCE OF INTEGER (WITH COMPONENT (SIZE (MIN..5))), INTEGER (WITH
-- COMPONENT (MIN..5))
each_number : is_sound (only numbers (type.with_component up_to_five)) ≡ true
each_number = refl

each_size : is_sound (only numbers (type.with_component (type.at no_site (type.size up_to_five)))) ≡ false
each_size = refl

no_elements : is_sound (only number (type.with_component up_to_five)) ≡ false
no_elements = refl

-- level and urgent are at the places 0 and 1
level_up_to_five :
    is_sound (only ping (type.with_components true (type.part_within no_site 0 up_to_five None type.no_parts)))
    ≡ true
level_up_to_five = refl

urgent_up_to_five :
    is_sound (only ping (type.with_components true (type.part_within no_site 1 up_to_five None type.no_parts)))
    ≡ false
urgent_up_to_five = refl

last_place : is_sound (only ping (type.with_components true (type.part no_site 1 None type.no_parts))) ≡ true
last_place = refl

past_the_last : is_sound (only ping (type.with_components true (type.part no_site 2 None type.no_parts))) ≡ false
past_the_last = refl

-- SEQUENCE {a NumericString DEFAULT "q"}
letter_for_digits :
    is_sound (plain (universal 16)
    (type.sequence (component (codes "a") digits (type.default (value.characters (codes "q"))) no_components)))
    ≡ false
letter_for_digits = refl

-- ---- an order and what is left of it with a small quantity

abbrev between : ℕ → ℕ → Element
between low high = type.range (At (pos low)) (At (pos high))

abbrev limited_order : AbstractType
limited_order = plain (universal 16) (type.sequence
    (component (codes "id") (only (plain (context 0) (type.integer [])) (between 0 99999)) type.mandatory
    (component (codes "kind") (plain (context 1) kinds) type.mandatory
    (component (codes "qty") (plain (context 2) (type.integer [])) (type.default (value.integer (pos 1)))
    (component (codes "note")
    (only (plain (context 3) (type.characters Utf8)) (type.size (type.at no_site (between 0 20)))) type.optional
    (component (codes "lines") (plain (context 4) (type.sequence_of number)) type.mandatory no_components))))))

sound_order : is_sound limited_order ≡ true
unfolding fewest unsigned_octets signed_octets base_128 identifier_octets length_octets element
sound_order = refl

sound_small :
    is_sound (only limited_order
    (type.with_components true (type.part_within no_site 2 (type.at no_site (between 1 10)) None type.no_parts)))
    ≡ true
unfolding fewest unsigned_octets signed_octets base_128 identifier_octets length_octets element
sound_small = refl
