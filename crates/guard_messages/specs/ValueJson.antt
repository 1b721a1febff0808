-- A value as JSON (RFC 8259), as tokens, in the form of the JSON encoding rules of ASN.1 (X.697): by the names that its
-- type has, and with octets in hexadecimal. What the type doesn't name is written by its number, as in value notation. A
-- BIT STRING has its length beside its octets, whether or not its type fixes that.
use Rattle.std.specs.Prelude.{ℕ, suc, ◌+◌, ◌-◌, ◌*◌, ◌/◌, ◌%◌, ℤ, List, [], ◌∷◌, ◌++◌, codes, decimal, flat_map, length, nat_lt, Option, Some, None, if◌then◌else◌}
use Rattle.std.specs.Fmt.{signed_decimal}
use Rattle.std.specs.Int.{w16, to_be_bytes}
use Rattle.std.specs.Str.{chars, encode_utf8_all}
use Rattle.hex.specs.Hex.{encode_lower, encode_upper}
use Rattle.json.specs.Print.{print}
use Rattle.json.specs.Token as json
use Rattle.json.specs.Token.{Token}
use Rattle.guard_model.specs.declared.site.Step.TheVariants.{Component}
use Rattle.guard_model.specs.AbstractType.{AbstractType}
use Rattle.guard_model.specs.AbstractValue as value
use Rattle.guard_model.specs.AbstractValue.{AbstractValue, Fields, Items}
use Rattle.guard_report.specs.Strings.{name_of}
use Rattle.guard_report.specs.Text.{element_type, type_within}
use Rattle.guard_report.specs.ValueText.{items_known, part_name}

-- ---- simple values

-- an item of an ENUMERATED by its name
abbrev pub item_json : Option (List ℕ) → ℤ → Token
item_json (Some name) z = json.string name
item_json None z = json.number (signed_decimal z)

-- the octets, and how many bits of them belong to the string
abbrev pub bits_json : List ℕ → ℕ → List Token
bits_json octets unused =
    json.begin_object
    ∷ json.key (codes "value") ∷ json.string (encode_upper octets)
    ∷ json.key (codes "length") ∷ json.number (decimal (8 * length octets - unused))
    ∷ json.end_object ∷ []

-- the arcs with dots between them
abbrev pub further_arcs : List ℕ → List ℕ
further_arcs [] = []
further_arcs (arc ∷ arcs) = codes "." ++ decimal arc ++ further_arcs arcs

abbrev pub dotted : List ℕ → List ℕ
dotted [] = []
dotted (arc ∷ arcs) = decimal arc ++ further_arcs arcs

-- ---- values with parts

abbrev mutual
  pub value_json : Option AbstractType → AbstractValue → List Token
  value_json t (value.boolean b) = json.boolean b ∷ []
  value_json t (value.integer z) = json.number (signed_decimal z) ∷ []
  value_json t (value.enumerated z) = item_json (name_of (items_known t) z) z ∷ []
  value_json t value.null = json.null ∷ []
  value_json t (value.bit_string octets unused) = bits_json octets unused
  value_json t (value.octet_string octets) = json.string (encode_upper octets) ∷ []
  value_json t (value.object_identifier arcs) = json.string (dotted arcs) ∷ []
  value_json t (value.characters characters) = json.string (encode_utf8_all characters) ∷ []
  -- of a SEQUENCE or a SET
  value_json t (value.fields fs) = json.begin_object ∷ (members_json t 0 fs ++ json.end_object ∷ [])
  -- of the OF types
  value_json t (value.items vs) = json.begin_array ∷ (elements_json (element_type t) vs ++ json.end_array ∷ [])
  -- of a CHOICE
  value_json t (value.chosen i v) =
      json.begin_object ∷ json.key (part_name t i) ∷ (value_json (type_within t (Component i)) v ++ json.end_object ∷ [])

  -- Each component that is there, behind its name. The first of these is at place i.
  pub members_json : Option AbstractType → ℕ → Fields → List Token
  members_json t i value.no_fields = []
  members_json t i (value.present v fs) =
      json.key (part_name t i) ∷ (value_json (type_within t (Component i)) v ++ members_json t (suc i) fs)
  members_json t i (value.absent fs) = members_json t (suc i) fs

  -- the elements, each of this type
  pub elements_json : Option AbstractType → Items → List Token
  elements_json t value.no_items = []
  elements_json t (value.item v vs) = value_json t v ++ elements_json t vs

-- ---- the text of the tokens

-- a unit of UTF-16, by four hexadecimal digits
abbrev pub escaped_unit : ℕ → List ℕ
escaped_unit unit = codes "\\u" ++ encode_lower (to_be_bytes w16 unit)

-- A character that ASCII has and prints stands for itself. Any other, which only strings have, is escaped (RFC 8259
-- clause 7): none of them is hidden, or moves what is shown beside it.
abbrev pub in_ascii : ℕ → List ℕ
in_ascii code =
    if nat_lt code 0x7f then code ∷ []
    else if nat_lt code 0x10000 then escaped_unit code
    else escaped_unit (0xd800 + (code - 0x10000) / 0x400) ++ escaped_unit (0xdc00 + (code - 0x10000) % 0x400)

abbrev pub ascii_text : List Token → List ℕ
ascii_text ts = flat_map in_ascii (chars (print ts))
