-- Worked examples of values as they are written. What is expected was written by hand by X.680.
use Rattle.std.specs.Prelude.{◌≡◌, pos, negsuc, true, List, [], ◌∷◌, codes, refl, Some, None}
use Rattle.std.specs.Fmt.{digits}
use Rattle.guard_model.specs.declared.site.Step.TheVariants.{Component, Element}
use Rattle.guard_model.specs.declared.ty.CharKind.TheVariants.{Ia5, Utf8}
use Rattle.guard_model.specs.AbstractType as type
use Rattle.guard_model.specs.AbstractType.{AbstractType, NamedNumber, no_components, component}
use Rattle.guard_model.specs.AbstractValue.{AbstractValue, boolean, integer, enumerated, null, octet_string}
use Rattle.guard_model.specs.AbstractValue.{object_identifier, fields, items, chosen, no_fields, present, absent}
use Rattle.guard_model.specs.AbstractValue.{no_items, item}
use Rattle.guard_eval.specs.rows.Rows.{plain}
use Rattle.guard_report.specs.declared.layout.Layout.TheVariants.{Line, Lines}
use Rattle.guard_report.specs.Strings.{bits_text}
use Rattle.guard_report.specs.CharacterStrings.{characters_text}
use Rattle.guard_report.specs.ValueText.{value_octets}
use Rattle.guard_report.specs.Parts.{value_at, part_octets}
use Rattle.guard_report.specs.rows.Rows.{order}

-- an order with one line, which is the empty list of alternative `all`
abbrev pub bought : AbstractValue
bought =
    fields (present (integer (pos 11))
    (present (boolean true)
    (present (items (item (chosen 1 (items no_items)) no_items))
    no_fields)))

on_one_line : value_octets Line (Some order) bought ≡ codes "{qty 11, urgent TRUE, lines {all: {}}}"
unfolding digits
on_one_line = refl

on_lines : value_octets (Lines 0) (Some order) bought
    ≡ codes "{\n  qty 11,\n  urgent TRUE,\n  lines {\n    all: {}\n  }\n}"
unfolding digits
on_lines = refl

-- a component that is left out, and one that the type doesn't have
without_urgent : value_octets Line (Some order)
    (fields (present (integer (negsuc 4)) (absent (absent (present null no_fields)))))
    ≡ codes "{qty -5, 3 NULL}"
unfolding digits
without_urgent = refl

-- ENUMERATED { buy (0), sell (7) }
abbrev side : AbstractType
side =
    plain 10 (type.enumerated
    (record { name = codes "buy"; number = pos 0 } ∷ record { name = codes "sell"; number = pos 7 } ∷ []))

sold : value_octets Line (Some side) (enumerated (pos 7)) ≡ codes "sell"
unfolding digits
sold = refl

arcs : value_octets Line None (object_identifier (2 ∷ 5 ∷ 840 ∷ [])) ≡ codes "{2 5 840}"
unfolding digits
arcs = refl

octets : value_octets Line None (octet_string (171 ∷ 15 ∷ [])) ≡ codes "'AB0F'H"
octets = refl

-- ---- bits

full_bits : bits_text [] (171 ∷ []) 0 ≡ codes "'AB'H"
full_bits = refl

four_bits : bits_text [] (80 ∷ []) 4 ≡ codes "'0101'B"
four_bits = refl

-- BIT STRING { read (0), write (2) }
abbrev rights : List NamedNumber
rights = record { name = codes "read"; number = pos 0 } ∷ record { name = codes "write"; number = pos 2 } ∷ []

named_bits : bits_text rights (160 ∷ []) 5 ≡ codes "{read, write}"
named_bits = refl

no_bits : bits_text rights [] 0 ≡ codes "{}"
no_bits = refl

-- bit 1 has no name
unnamed_bit : bits_text rights (192 ∷ []) 6 ≡ codes "'11'B"
unnamed_bit = refl

-- ---- characters

quotes : characters_text (Some Ia5) (codes "say \"no\"") ≡ codes "\"say \"\"no\"\"\""
unfolding lib.Utf8.encode
quotes = refl

line_end : characters_text (Some Utf8) (codes "ab\ncd") ≡ codes "{\"ab\", {0, 0, 0, 10}, \"cd\"}"
unfolding digits lib.Utf8.encode
line_end = refl

delete : characters_text (Some Ia5) (127 ∷ 65 ∷ []) ≡ codes "{{7, 15}, \"A\"}"
unfolding digits lib.Utf8.encode
delete = refl

-- U+202E, which turns the direction of what follows
turned : characters_text (Some Utf8) (8238 ∷ []) ≡ codes "{{0, 0, 32, 46}}"
unfolding digits
turned = refl

-- ---- parts

quantity : part_octets order bought (Component 0 ∷ []) ≡ Some (codes "11")
unfolding digits
quantity = refl

first_line : part_octets order bought (Component 2 ∷ Element 0 ∷ []) ≡ Some (codes "all: {}")
unfolding digits
first_line = refl

other_alternative : value_at (Component 2 ∷ Element 0 ∷ Component 0 ∷ []) bought ≡ None
other_alternative = refl

second_line : value_at (Component 2 ∷ Element 1 ∷ []) bought ≡ None
second_line = refl
