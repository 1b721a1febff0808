-- Worked examples of every constraint.
use Rattle.std.specs.Prelude.{◌≡◌, ℕ, pos, Bool, true, false, List, [], ◌∷◌, codes, Some, None, refl}
use Rattle.guard_model.specs.declared.site.Step.TheVariants.{Component, Element}
use Rattle.guard_model.specs.declared.ty.CharKind.TheVariants.{Utf8, Ia5}
use Rattle.guard_model.specs.declared.ty.Limit.TheVariants.{Free, At}
use Rattle.guard_model.specs.declared.ty.Word.TheVariants.{Absent}
use Rattle.guard_model.specs.AbstractType as type
use Rattle.guard_model.specs.AbstractType.{AbstractType, AbstractKind, Components, Constraint, Constraints, Element as SetElement, NamedNumber, Parts, type_of, no_components, component, at, no_constraints, constraint}
use Rattle.guard_model.specs.AbstractValue as value
use Rattle.guard_model.specs.AbstractValue.{AbstractValue, Fields}
use Rattle.guard_eval.specs.Member.{is_member}
use Rattle.guard_eval.specs.Violations.{violation}
use Rattle.guard_eval.specs.rows.Rows.{column, between_at, range_at, tagged, plain, ranged, either, number_chosen, nothing_chosen}

abbrev alone : Constraint → Constraints
alone c = constraint c no_constraints

abbrev both_of : Constraint → Constraint → Constraints
both_of c d = constraint c (alone d)

abbrev whole : ℕ → AbstractValue
whole n = value.integer (pos n)

abbrev number_at : ℕ → ℕ → Constraint
number_at n k = at (column n) (type.single_value (whole k))

-- ---- set arithmetic

-- INTEGER (1..10 | 20..30 ^ 25..40)
abbrev mixed : AbstractType
mixed =
    ranged (at (column 10) (type.union (both_of (range_at 10 (pos 1) (pos 10))
    (at (column 18) (type.intersection (both_of (range_at 18 (pos 20) (pos 30)) (range_at 27 (pos 25) (pos 40))))))))

ten : is_member mixed (whole 10) ≡ true
ten = refl

twenty_two : violation mixed (whole 22) ≡ Some (record { site = column 10; path = [] })
twenty_two = refl

twenty_five : is_member mixed (whole 25) ≡ true
twenty_five = refl

-- INTEGER (ALL EXCEPT 3)
three : is_member (ranged (at (column 10) (type.all_except (number_at 21 3)))) (whole 3) ≡ false
three = refl

four : is_member (ranged (at (column 10) (type.all_except (number_at 21 3)))) (whole 4) ≡ true
four = refl

-- INTEGER (5..9)(MIN..7)
abbrev narrowed : AbstractType
narrowed = tagged 2 (type.integer []) (both_of (range_at 10 (pos 5) (pos 9)) (between_at 16 Free (At (pos 7))))

seven : is_member narrowed (whole 7) ≡ true
seven = refl

eight : violation narrowed (whole 8) ≡ Some (record { site = column 16; path = [] })
eight = refl

-- INTEGER (0..9 EXCEPT 5): the left side is blamed for 10, EXCEPT itself for 5
abbrev without_five : AbstractType
without_five = ranged (at (column 10) (type.except (range_at 11 (pos 0) (pos 9)) (number_at 22 5)))

left_side : violation without_five (whole 10) ≡ Some (record { site = column 11; path = [] })
left_side = refl

five : violation without_five (whole 5) ≡ Some (record { site = column 10; path = [] })
five = refl

-- INTEGER (1..4 EXCEPT 2 | 2)
abbrev again_two : AbstractType
again_two =
    ranged (at (column 10) (type.union (both_of
    (at (column 10) (type.except (range_at 10 (pos 1) (pos 4)) (number_at 22 2)))
    (number_at 26 2))))

two : is_member again_two (whole 2) ≡ true
two = refl

-- ---- contained types, sizes, characters

-- INTEGER (Small), where Small is INTEGER (0..5)
abbrev within_small : Constraint
within_small = at (column 10) (type.contained_subtype (ranged (range_at 40 (pos 0) (pos 5))))

abbrev small : AbstractType
small = ranged within_small

abbrev named : ℕ → List NamedNumber
named n = record { name = codes "it"; number = pos n } ∷ []

small_six : violation small (whole 6) ≡ Some (record { site = column 10; path = [] })
small_six = refl

-- INTEGER { it(3) } (Small): named numbers are no other base
small_three : is_member (tagged 2 (type.integer (named 3)) (alone within_small)) (whole 3) ≡ true
small_three = refl

-- UTF8String (Ascii), where Ascii is IA5String: the same characters are of another base
abbrev another_base : AbstractType
another_base =
    tagged 12 (type.characters Utf8)
    (alone (at (column 12) (type.contained_subtype (tagged 22 (type.characters Ia5) no_constraints))))

of_another_base : violation another_base (value.characters (codes "a")) ≡ Some (record { site = column 12; path = [] })
of_another_base = refl

-- UTF8String (SIZE (1)): a character of two octets is one
abbrev one_of_size : AbstractType
one_of_size = tagged 12 (type.characters Utf8) (alone (at (column 12) (type.size (number_at 18 1))))

one_character : is_member one_of_size (value.characters (0xE9 ∷ [])) ≡ true
one_character = refl

-- BIT STRING (SIZE (3))
abbrev bits_of_size : AbstractType
bits_of_size = tagged 3 (type.bit_string []) (alone (at (column 12) (type.size (number_at 18 3))))

three_bits : is_member bits_of_size (value.bit_string (0xA0 ∷ []) 5) ≡ true
three_bits = refl

-- BIT STRING { it(0) } (SIZE (1)): SIZE applies to no named bits
no_size_of_named_bits :
    is_member (tagged 3 (type.bit_string (named 0)) (alone (at (column 12) (type.size (number_at 18 1)))))
    (value.bit_string (0x80 ∷ []) 7) ≡ false
no_size_of_named_bits = refl

-- nor to INTEGER
no_size : is_member (ranged (at (column 10) (type.size (number_at 16 1)))) (whole 1) ≡ false
no_size = refl

-- IA5String (FROM ("a".."c" | "xy"))
abbrev few_letters : AbstractType
few_letters =
    tagged 22 (type.characters Ia5)
    (alone (at (column 12) (type.permitted_alphabet ((97, 99) ∷ (120, 120) ∷ (121, 121) ∷ []))))

no_letter : is_member few_letters (value.characters []) ≡ true
no_letter = refl

permitted : is_member few_letters (value.characters (codes "axy")) ≡ true
permitted = refl

one_is_not : is_member few_letters (value.characters (codes "ad")) ≡ false
one_is_not = refl

-- ---- parts

abbrev list_of : List ℕ → value.Items
list_of [] = value.no_items
list_of (n ∷ ns) = value.item (whole n) (list_of ns)

abbrev numbers : List ℕ → AbstractValue
numbers ns = value.items (list_of ns)

-- SEQUENCE (SIZE (1..2)) OF INTEGER (0..5)
abbrev one_or_two : AbstractType
one_or_two =
    tagged 16 (type.sequence_of (ranged (range_at 40 (pos 0) (pos 5))))
    (alone (at (column 20) (type.size (range_at 26 (pos 1) (pos 2)))))

one_five : is_member one_or_two (numbers (5 ∷ [])) ≡ true
one_five = refl

no_number : violation one_or_two (numbers []) ≡ Some (record { site = column 20; path = [] })
no_number = refl

one_six : violation one_or_two (numbers (6 ∷ [])) ≡ Some (record { site = column 40; path = Element 0 ∷ [] })
one_six = refl

-- SEQUENCE OF INTEGER, with (WITH COMPONENT (0..5))
abbrev small_numbers : AbstractType
small_numbers =
    tagged 16 (type.sequence_of (plain 2 (type.integer [])))
    (alone (at (column 20) (type.with_component (range_at 36 (pos 0) (pos 5)))))

small_ones : violation small_numbers (numbers (0 ∷ 5 ∷ [])) ≡ None
small_ones = refl

second_too_large :
    violation small_numbers (numbers (0 ∷ 6 ∷ [])) ≡ Some (record { site = column 36; path = Element 1 ∷ [] })
second_too_large = refl

-- Two components of type NULL, both OPTIONAL, of which WITH COMPONENTS lists the first: in full, or with `...` in part
abbrev two_nulls : SetElement → AbstractType
two_nulls e =
    tagged 16 (type.sequence
    (component (codes "a") (plain 0 type.null) type.optional
    (component (codes "b") (plain 1 type.null) type.optional
    no_components)))
    (alone (at (column 20) e))

abbrev if_sent : Bool → Fields → Fields
if_sent true fs = value.present value.null fs
if_sent false fs = value.absent fs

-- with a where the first is true, with b where the second is
abbrev nulls : Bool → Bool → AbstractValue
nulls a b = value.fields (if_sent a (if_sent b value.no_fields))

abbrev only_a : Parts
only_a = type.part (column 38) 0 None type.no_parts

neither_there :
    violation (two_nulls (type.with_components false only_a)) (nulls false false)
    ≡ Some (record { site = column 38; path = Component 0 ∷ [] })
neither_there = refl

both_there :
    violation (two_nulls (type.with_components false only_a)) (nulls true true)
    ≡ Some (record { site = column 20; path = Component 1 ∷ [] })
both_there = refl

a_there : violation (two_nulls (type.with_components false only_a)) (nulls true false) ≡ None
a_there = refl

in_part : violation (two_nulls (type.with_components true only_a)) (nulls false true) ≡ None
in_part = refl

abbrev no_b : Parts
no_b = type.part (column 44) 1 (Some Absent) type.no_parts

b_absent :
    violation (two_nulls (type.with_components true no_b)) (nulls false true)
    ≡ Some (record { site = column 44; path = Component 1 ∷ [] })
b_absent = refl

abbrev with_constraint : AbstractType → Constraint → AbstractType
with_constraint (type_of tags kind cons) c = type_of tags kind (alone c)

-- CHOICE { none NULL, some INTEGER (0..5) }, with (WITH COMPONENTS { some (1..3) })
abbrev some_only : AbstractType
some_only =
    with_constraint either (at (column 20) (type.with_components false
    (type.part_within (column 38) 1 (range_at 44 (pos 1) (pos 3)) None type.no_parts)))

two_chosen : violation some_only (number_chosen (pos 2)) ≡ None
two_chosen = refl

four_chosen : violation some_only (number_chosen (pos 4)) ≡ Some (record { site = column 44; path = Component 1 ∷ [] })
four_chosen = refl

other_chosen : violation some_only nothing_chosen ≡ Some (record { site = column 20; path = Component 0 ∷ [] })
other_chosen = refl
