-- Worked examples of values as JSON. What is expected was written by hand by X.697 and RFC 8259.
use Rattle.std.specs.Prelude.{◌≡◌, pos, negsuc, [], ◌∷◌, codes, refl, Some, None}
use Rattle.std.specs.Fmt.{digits}
use Rattle.std.specs.Str.{chars}
use lib.Utf8.{encode}
use Rattle.hex.specs.Hex.{encode_with}
use Rattle.json.specs.Print.{escape_byte, print, print_from}
use Rattle.guard_model.specs.AbstractType as type
use Rattle.guard_model.specs.AbstractType.{AbstractType}
use Rattle.guard_model.specs.AbstractValue.{integer, enumerated, null, bit_string, octet_string, object_identifier, characters}
use Rattle.guard_model.specs.AbstractValue.{fields, no_fields, present, absent}
use Rattle.guard_eval.specs.rows.Rows.{plain}
use Rattle.guard_report.specs.rows.Rows.{order}
use Rattle.guard_report.specs.rows.ValueRows.{bought}
use Rattle.guard_messages.specs.ValueJson.{ascii_text, value_json}

-- an order with one line, which is the empty list of alternative `all`
whole : print (value_json (Some order) bought) ≡ codes "{\"qty\":11,\"urgent\":true,\"lines\":[{\"all\":[]}]}"
unfolding digits print_from escape_byte
whole = refl

-- a component that is left out, and one that the type doesn't have
without_urgent : print (value_json (Some order) (fields (present (integer (negsuc 4)) (absent (absent (present null no_fields))))))
    ≡ codes "{\"qty\":-5,\"3\":null}"
unfolding digits print_from escape_byte
without_urgent = refl

-- ENUMERATED { buy (0), sell (7) }
abbrev side : AbstractType
side =
    plain 10 (type.enumerated
    (record { name = codes "buy"; number = pos 0 } ∷ record { name = codes "sell"; number = pos 7 } ∷ []))

sold : print (value_json (Some side) (enumerated (pos 7))) ≡ codes "\"sell\""
unfolding print_from escape_byte
sold = refl

unnamed_item : print (value_json (Some side) (enumerated (pos 8))) ≡ codes "8"
unfolding digits print_from escape_byte
unnamed_item = refl

-- ---- strings

octets : print (value_json None (octet_string (171 ∷ 15 ∷ []))) ≡ codes "\"AB0F\""
unfolding print_from escape_byte encode_with
octets = refl

twelve_bits : print (value_json None (bit_string (171 ∷ 80 ∷ []) 4)) ≡ codes "{\"value\":\"AB50\",\"length\":12}"
unfolding digits print_from escape_byte encode_with
twelve_bits = refl

no_bits : print (value_json None (bit_string [] 0)) ≡ codes "{\"value\":\"\",\"length\":0}"
unfolding digits print_from escape_byte encode_with
no_bits = refl

arcs : print (value_json None (object_identifier (2 ∷ 5 ∷ 840 ∷ []))) ≡ codes "\"2.5.840\""
unfolding digits print_from escape_byte
arcs = refl

-- a quote, a line feed and a control are escaped
escaped : print (value_json None (characters (97 ∷ 34 ∷ 10 ∷ 1 ∷ []))) ≡ codes "\"a\\\"\\n\\u0001\""
unfolding print_from escape_byte encode
escaped = refl

-- in ASCII: a letter with an accent, a control, a mark of direction, and a tag, which has two units
in_units : ascii_text (value_json None (characters (0xe9 ∷ 0x7f ∷ 0x202e ∷ 0xe0001 ∷ [])))
    ≡ codes "\"\\u00e9\\u007f\\u202e\\udb40\\udc01\""
unfolding print_from escape_byte encode_with chars encode
in_units = refl
