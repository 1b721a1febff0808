-- Worked examples of members and of first violations.
use Rattle.std.specs.Prelude.{◌≡◌, ℕ, ℤ, pos, negsuc, true, false, [], ◌∷◌, codes, Some, None, refl}
use Rattle.guard_model.specs.declared.site.Site.{Site}
use Rattle.guard_model.specs.declared.site.Step.TheVariants.{Component, Element}
use Rattle.guard_model.specs.declared.tag.Class.TheVariants.{Universal}
use Rattle.guard_model.specs.declared.ty.CharKind.TheVariants.{Utf8}
use Rattle.guard_model.specs.declared.ty.Limit.{Limit}
use Rattle.guard_model.specs.declared.ty.Limit.TheVariants.{Free, At, Past}
use Rattle.guard_model.specs.AbstractType as type
use Rattle.guard_model.specs.AbstractType.{AbstractType, AbstractKind, Constraint, Constraints, type_of, no_components, component, at, no_constraints, constraint}
use Rattle.guard_model.specs.AbstractValue as value
use Rattle.guard_model.specs.AbstractValue.{AbstractValue}
use Rattle.guard_eval.specs.Member.{is_member}
use Rattle.guard_eval.specs.Violations.{violation}

abbrev pub column : ℕ → Site
column n = record { text = 1; line = 1; column = n }

abbrev pub between_at : ℕ → Limit → Limit → Constraint
between_at n low high = at (column n) (type.range low high)

abbrev pub range_at : ℕ → ℤ → ℤ → Constraint
range_at n low high = between_at n (At low) (At high)

abbrev pub tagged : ℕ → AbstractKind → Constraints → AbstractType
tagged n kind cons = type_of (record { class = Universal; number = n } ∷ []) kind cons

abbrev pub plain : ℕ → AbstractKind → AbstractType
plain n kind = tagged n kind no_constraints

abbrev pub ranged : Constraint → AbstractType
ranged c = tagged 2 (type.integer []) (constraint c no_constraints)

abbrev whole : ℕ → AbstractValue
whole n = value.integer (pos n)

-- ---- ranges

-- INTEGER (5..9)(1..7)
abbrev pub narrowed : AbstractType
narrowed =
    tagged 2 (type.integer [])
    (constraint (range_at 9 (pos 5) (pos 9)) (constraint (range_at 15 (pos 1) (pos 7)) no_constraints))

four : is_member narrowed (whole 4) ≡ false
four = refl

five : is_member narrowed (whole 5) ≡ true
five = refl

seven : is_member narrowed (whole 7) ≡ true
seven = refl

eight : violation narrowed (whole 8) ≡ Some (record { site = column 15; path = [] })
eight = refl

-- both constraints fail: the first is blamed
ten : violation narrowed (whole 10) ≡ Some (record { site = column 9; path = [] })
ten = refl

-- INTEGER (5..3) has no member: an empty range is lawful
none_of_empty : violation (ranged (range_at 9 (pos 5) (pos 3))) (whole 4) ≡ Some (record { site = column 9; path = [] })
none_of_empty = refl

-- INTEGER (-2..-1)
minus_three : is_member (ranged (range_at 9 (negsuc 1) (negsuc 0))) (value.integer (negsuc 2)) ≡ false
minus_three = refl

minus_two : is_member (ranged (range_at 9 (negsuc 1) (negsuc 0))) (value.integer (negsuc 1)) ≡ true
minus_two = refl

-- INTEGER (0<..<9)
abbrev inner_digits : AbstractType
inner_digits = ranged (between_at 9 (Past (pos 0)) (Past (pos 9)))

low_end_out : is_member inner_digits (whole 0) ≡ false
low_end_out = refl

least : is_member inner_digits (whole 1) ≡ true
least = refl

greatest : is_member inner_digits (whole 8) ≡ true
greatest = refl

high_end_out : is_member inner_digits (whole 9) ≡ false
high_end_out = refl

-- INTEGER (MIN..7), INTEGER (7..MAX)
no_low_end : is_member (ranged (between_at 9 Free (At (pos 7)))) (value.integer (negsuc 1000)) ≡ true
no_low_end = refl

above_high_end : is_member (ranged (between_at 9 Free (At (pos 7)))) (whole 8) ≡ false
above_high_end = refl

no_high_end : is_member (ranged (between_at 9 (At (pos 7)) Free)) (whole 1000) ≡ true
no_high_end = refl

below_low_end : is_member (ranged (between_at 9 (At (pos 7)) Free)) (whole 6) ≡ false
below_low_end = refl

-- ---- the simple kinds without constraints

truth : violation (plain 1 type.boolean) (value.boolean true) ≡ None
truth = refl

bits : violation (plain 3 (type.bit_string [])) (value.bit_string (0xA0 ∷ []) 5) ≡ None
bits = refl

octets : violation (plain 4 type.octet_string) (value.octet_string (1 ∷ 2 ∷ [])) ≡ None
octets = refl

nothing : violation (plain 5 type.null) value.null ≡ None
nothing = refl

identifier : violation (plain 6 type.object_identifier) (value.object_identifier (2 ∷ 999 ∷ 3 ∷ [])) ≡ None
identifier = refl

abbrev buying : AbstractKind
buying = type.enumerated (record { name = codes "buy"; number = pos 0 } ∷ [])

item : violation (plain 10 buying) (value.enumerated (pos 0)) ≡ None
item = refl

text : violation (plain 12 (type.characters Utf8)) (value.characters (0xE9 ∷ [])) ≡ None
text = refl

-- ---- SEQUENCE and SET

-- SEQUENCE { level INTEGER (0..100), inner SEQUENCE { urgent BOOLEAN, qty INTEGER (1..10) } }
abbrev pub nested : AbstractType
nested =
    plain 16 (type.sequence
    (component (codes "level") (ranged (range_at 20 (pos 0) (pos 100))) type.mandatory
    (component (codes "inner") (plain 16 (type.sequence
    (component (codes "urgent") (plain 1 type.boolean) type.mandatory
    (component (codes "qty") (ranged (range_at 70 (pos 1) (pos 10))) type.mandatory
    no_components)))) type.mandatory
    no_components)))

abbrev pub levelled : ℤ → ℤ → AbstractValue
levelled level qty =
    value.fields (value.present (value.integer level)
    (value.present (value.fields
    (value.present (value.boolean true) (value.present (value.integer qty) value.no_fields)))
    value.no_fields))

all_within : is_member nested (levelled (pos 5) (pos 10)) ≡ true
all_within = refl

inner_fails :
    violation nested (levelled (pos 5) (pos 11))
    ≡ Some (record { site = column 70; path = Component 1 ∷ Component 1 ∷ [] })
inner_fails = refl

-- components are tested in written order
both_fail : violation nested (levelled (pos 101) (pos 11)) ≡ Some (record { site = column 20; path = Component 0 ∷ [] })
both_fail = refl

-- SET { qty INTEGER (2..10) DEFAULT 1, note SEQUENCE { size INTEGER (1..3) } OPTIONAL, urgent BOOLEAN }
abbrev pub order_set : AbstractType
order_set =
    plain 17 (type.set
    (component (codes "qty") (ranged (range_at 20 (pos 2) (pos 10))) (type.default (value.integer (pos 1)))
    (component (codes "note") (plain 16 (type.sequence
    (component (codes "size") (ranged (range_at 40 (pos 1) (pos 3))) type.mandatory no_components))) type.optional
    (component (codes "urgent") (plain 1 type.boolean) type.mandatory no_components))))

abbrev pub ordered : ℤ → AbstractValue
ordered qty =
    value.fields (value.present (value.integer qty)
    (value.absent (value.present (value.boolean true) value.no_fields)))

abbrev pub noted : ℤ → ℤ → AbstractValue
noted qty size =
    value.fields (value.present (value.integer qty)
    (value.present (value.fields (value.present (value.integer size) value.no_fields))
    (value.present (value.boolean true) value.no_fields)))

-- what is absent violates nothing
absent_passes : violation order_set (ordered (pos 2)) ≡ None
absent_passes = refl

-- a default is tested though it is not sent
default_fails : violation order_set (ordered (pos 1)) ≡ Some (record { site = column 20; path = Component 0 ∷ [] })
default_fails = refl

note_passes : violation order_set (noted (pos 10) (pos 3)) ≡ None
note_passes = refl

note_fails :
    violation order_set (noted (pos 10) (pos 4))
    ≡ Some (record { site = column 40; path = Component 1 ∷ Component 0 ∷ [] })
note_fails = refl

-- ---- CHOICE and the OF types

-- CHOICE { none NULL, some INTEGER (0..5) }
abbrev pub either : AbstractType
either =
    type_of [] (type.choice
    (component (codes "none") (plain 5 type.null) type.mandatory
    (component (codes "some") (ranged (range_at 30 (pos 0) (pos 5))) type.mandatory no_components))) no_constraints

abbrev pub nothing_chosen : AbstractValue
nothing_chosen = value.chosen 0 value.null

abbrev pub number_chosen : ℤ → AbstractValue
number_chosen z = value.chosen 1 (value.integer z)

none_chosen : violation either nothing_chosen ≡ None
none_chosen = refl

some_within : violation either (number_chosen (pos 5)) ≡ None
some_within = refl

some_fails : violation either (number_chosen (pos 6)) ≡ Some (record { site = column 30; path = Component 1 ∷ [] })
some_fails = refl

-- SEQUENCE OF CHOICE { none NULL, some INTEGER (0..5) }
abbrev pub many : AbstractType
many = plain 16 (type.sequence_of either)

abbrev pub three_items : ℤ → ℤ → AbstractValue
three_items first second =
    value.items (value.item (number_chosen first)
    (value.item nothing_chosen (value.item (number_chosen second) value.no_items)))

no_items : violation many (value.items value.no_items) ≡ None
no_items = refl

items_pass : violation many (three_items (pos 0) (pos 5)) ≡ None
items_pass = refl

last_item_fails :
    violation many (three_items (pos 0) (pos 6))
    ≡ Some (record { site = column 30; path = Element 2 ∷ Component 1 ∷ [] })
last_item_fails = refl

-- elements are tested in order
first_item_fails :
    violation many (three_items (pos 7) (pos 6))
    ≡ Some (record { site = column 30; path = Element 0 ∷ Component 1 ∷ [] })
first_item_fails = refl

-- SET OF INTEGER (0..5)
abbrev set_of_digits : AbstractType
set_of_digits = plain 17 (type.set_of (ranged (range_at 30 (pos 0) (pos 5))))

abbrev two_items : ℕ → ℕ → AbstractValue
two_items m n = value.items (value.item (whole m) (value.item (whole n) value.no_items))

set_item_passes : violation set_of_digits (two_items 1 5) ≡ None
set_item_passes = refl

set_item_fails :
    violation set_of_digits (two_items 1 6) ≡ Some (record { site = column 30; path = Element 1 ∷ [] })
set_item_fails = refl
