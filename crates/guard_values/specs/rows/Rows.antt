-- Worked examples of written values, computed.
use Rattle.std.specs.Prelude.{◌≡◌, ℕ, pos, negsuc, Bool, true, false, List, [], ◌∷◌, Some, None, Ok, refl, codes}
use Rattle.guard_model.specs.declared.site.Site.{Site}
use Rattle.guard_model.specs.declared.tag.Class.TheVariants.{Universal}
use Rattle.guard_model.specs.AbstractType as type
use Rattle.guard_model.specs.AbstractType.{AbstractType, Constraint, NamedNumber, type_of}
use Rattle.guard_model.specs.AbstractValue as value
use Rattle.guard_der.specs.Element.{element, identifier_octets, length_octets}
use Rattle.guard_der.specs.Octets.{fewest, signed_octets}
use Rattle.guard_syntax.specs.declared.tree.StringKind.TheVariants as string
use Rattle.guard_syntax.specs.Trees as written
use Rattle.guard_syntax.specs.Trees.{WrittenValue, WrittenEntries, value_node, no_entries, entry}
use Rattle.guard_values.specs.Strings.{quoted}
use Rattle.guard_values.specs.Simple.{bits_value, text_value}
use Rattle.guard_values.specs.NamedBits.{ones_at, places_named}
use Rattle.guard_values.specs.declared.fault.ValueFault.TheVariants.{WrongNotation, UnknownName, TooLarge}
use Rattle.guard_values.specs.Faults.{faults_of}
use Rattle.guard_values.specs.SingleValues.{keeps_within}
use Rattle.guard_values.specs.inside.Reading.{read, read_whole}

-- one bit for OCTET STRING is filled with zero bits after that one
one_bit : text_value type.octet_string string.Bits (codes "'1'B") ≡ Some (value.octet_string (0x80 ∷ []))
one_bit = refl

-- three hexadecimal digits are followed by a zero digit
three_digits : text_value type.octet_string string.Hexadecimal (codes "'ABC'H")
    ≡ Some (value.octet_string (0xAB ∷ 0xC0 ∷ []))
three_digits = refl

three_bits : text_value (type.bit_string []) string.Bits (codes "'1 0 1'B") ≡ Some (value.bit_string (0xA0 ∷ []) 5)
three_bits = refl

one_digit : text_value (type.bit_string []) string.Hexadecimal (codes "'A'H") ≡ Some (value.bit_string (0xA0 ∷ []) 4)
one_digit = refl

-- ---- BIT STRING {read(0), write(1), run(5)}

rights : List NamedNumber
rights =
    record { name = codes "read"; number = pos 0 } ∷ record { name = codes "write"; number = pos 1 }
    ∷ record { name = codes "run"; number = pos 5 } ∷ []

binary_rights : text_value (type.bit_string rights) string.Bits (codes "'1000010'B")
    ≡ Some (value.bit_string (0x84 ∷ []) 2)
unfolding rights
binary_rights = refl

hexadecimal_rights : text_value (type.bit_string rights) string.Hexadecimal (codes "'84'H")
    ≡ Some (value.bit_string (0x84 ∷ []) 2)
unfolding rights
hexadecimal_rights = refl

no_rights : text_value (type.bit_string rights) string.Bits (codes "'00'B") ≡ Some (value.bit_string [] 0)
unfolding rights
no_rights = refl

third_right : text_value (type.bit_string rights) string.Bits (codes "'001'B") ≡ Some (value.bit_string (0x20 ∷ []) 5)
unfolding rights
third_right = refl

-- in any order, and twice as once
named_rights : bits_value (ones_at (5 ∷ 0 ∷ 5 ∷ [])) ≡ value.bit_string (0x84 ∷ []) 2
named_rights = refl

none_named : bits_value (ones_at []) ≡ value.bit_string [] 0
none_named = refl

quotes : quoted (0x22 ∷ 0x61 ∷ 0x22 ∷ 0x22 ∷ 0x62 ∷ 0x22 ∷ []) ≡ 0x61 ∷ 0x22 ∷ 0x62 ∷ []
quotes = refl

-- ---- values with values inside

here : Site
here = record { text = 1; line = 1; column = 1 }

number : Bool → List ℕ → WrittenValue
number minus digits = value_node here (written.integer (record { site = here; minus = minus; digits = digits }))

integers : AbstractType
integers = type_of (record { class = Universal; number = 2 } ∷ []) (type.integer []) type.no_constraints

set_of_integers : AbstractType
set_of_integers = type_of (record { class = Universal; number = 17 } ∷ []) (type.set_of integers) type.no_constraints

-- the encoding of -1 descends to that of 1, so 1 comes first
ascending : read_whole (λ name. None) set_of_integers
    (value_node here (written.list
    (entry here None (number true (codes "1")) (entry here None (number false (codes "1")) no_entries))))
    ≡ Ok (value.items (value.item (value.integer (pos 1)) (value.item (value.integer (negsuc 0)) value.no_items)))
unfolding read here number integers set_of_integers fewest signed_octets identifier_octets length_octets element
ascending = refl

-- a chosen value is no INTEGER, whatever its name
other_form : faults_of (λ name. None) integers (value_node here (written.chosen (codes "a") (number false (codes "5"))))
    ≡ WrongNotation here ∷ []
unfolding here number integers
other_form = refl

-- 2^127 is too large, and it is written before TRUE
written_first : faults_of (λ name. None) set_of_integers
    (value_node here (written.list
    (entry here None (number false (codes "170141183460469231731687303715884105728"))
    (entry here None (value_node here (written.boolean true)) no_entries)))) ≡ TooLarge here ∷ WrongNotation here ∷ []
unfolding here number integers set_of_integers
written_first = refl

-- ---- names in braces

name_entry : List ℕ → WrittenEntries → WrittenEntries
name_entry name rest = entry here None (value_node here (written.reference name)) rest

rights_type : AbstractType
rights_type = type_of (record { class = Universal; number = 3 } ∷ []) (type.bit_string rights) type.no_constraints

two_places : places_named rights (name_entry (codes "run") (name_entry (codes "read") no_entries)) ≡ Some (5 ∷ 0 ∷ [])
unfolding rights name_entry
two_places = refl

other_name : faults_of (λ name. None) rights_type
    (value_node here (written.list (name_entry (codes "read") (name_entry (codes "exec") no_entries))))
    ≡ UnknownName here ∷ []
unfolding rights name_entry rights_type here
other_name = refl

no_name : faults_of (λ name. None) rights_type
    (value_node here (written.list (entry here None (number false (codes "1")) no_entries))) ≡ WrongNotation here ∷ []
unfolding rights number rights_type here
no_name = refl

-- braces aren't taken where no bit is named
no_list : faults_of (λ name. None)
    (type_of (record { class = Universal; number = 3 } ∷ []) (type.bit_string []) type.no_constraints)
    (value_node here (written.list no_entries)) ≡ WrongNotation here ∷ []
unfolding here
no_list = refl

-- ---- OCTET STRING ('00'H | '0102'H)

octets : AbstractType
octets =
    let one : Constraint = type.at here (type.single_value (value.octet_string (0x00 ∷ []))) in
    let other : Constraint = type.at here (type.single_value (value.octet_string (0x01 ∷ 0x02 ∷ []))) in
    type_of [] type.octet_string (type.constraint (type.at here (type.union
    (type.constraint one (type.constraint other type.no_constraints)))) type.no_constraints)

two_at_most : keeps_within 2 octets ≡ true
unfolding here octets
two_at_most = refl

more_than_one : keeps_within 1 octets ≡ false
unfolding here octets
more_than_one = refl
