-- The text of a value in ASN.1 value notation (X.680), by its kind. The type says how items, bits, components and
-- alternatives are called; what the type doesn't know is written by its number.
use Rattle.std.specs.Prelude.{ℕ, suc, ℤ, Bool, true, false, List, [], ◌∷◌, ◌++◌, codes, decimal, Option}
use Rattle.std.specs.Prelude.{Some, None}
use Rattle.std.specs.Fmt.{signed_decimal}
use Rattle.guard_model.specs.declared.ty.CharKind.{CharKind}
use Rattle.guard_model.specs.declared.site.Step.TheVariants.{Component}
use Rattle.guard_model.specs.AbstractType as type
use Rattle.guard_model.specs.AbstractType.{AbstractType, AbstractKind, NamedNumber, type_of}
use Rattle.guard_model.specs.AbstractValue as value
use Rattle.guard_model.specs.AbstractValue.{AbstractValue, Fields, Items}
use Rattle.guard_report.specs.declared.layout.Layout.{Layout}
use Rattle.guard_report.specs.Layouts.{inside, in_braces}
use Rattle.guard_report.specs.Strings.{hexadecimal, name_of, bits_text}
use Rattle.guard_report.specs.CharacterStrings.{characters_text}
use Rattle.guard_report.specs.Text.{element_type, type_within}
pub use Rattle.guard_report.specs.Text.{part_name}

-- ---- what the type knows

abbrev pub items_in : AbstractKind → List NamedNumber
items_in (type.enumerated items) = items
items_in _ = []

abbrev pub items_known : Option AbstractType → List NamedNumber
items_known None = []
items_known (Some (type_of tags kind cons)) = items_in kind

abbrev pub bits_in : AbstractKind → List NamedNumber
bits_in (type.bit_string names) = names
bits_in _ = []

abbrev pub bits_known : Option AbstractType → List NamedNumber
bits_known None = []
bits_known (Some (type_of tags kind cons)) = bits_in kind

abbrev pub characters_in : AbstractKind → Option CharKind
characters_in (type.characters kind) = Some kind
characters_in _ = None

abbrev pub characters_known : Option AbstractType → Option CharKind
characters_known None = None
characters_known (Some (type_of tags kind cons)) = characters_in kind

-- ---- simple values

-- clause 18
abbrev pub boolean_text : Bool → List ℕ
boolean_text true = codes "TRUE"
boolean_text false = codes "FALSE"

-- an item by its name (clause 20)
abbrev pub item_text : Option (List ℕ) → ℤ → List ℕ
item_text (Some name) z = name
item_text None z = signed_decimal z

-- the arcs with spaces between them (clause 32)
abbrev pub further_arcs : List ℕ → List ℕ
further_arcs [] = codes "}"
further_arcs (arc ∷ arcs) = codes " " ++ decimal arc ++ further_arcs arcs

abbrev pub arcs_text : List ℕ → List ℕ
arcs_text [] = codes "{}"
arcs_text (arc ∷ arcs) = codes "{" ++ decimal arc ++ further_arcs arcs

-- ---- values with parts

abbrev mutual
  pub value_octets : Layout → Option AbstractType → AbstractValue → List ℕ
  value_octets layout t (value.boolean b) = boolean_text b
  value_octets layout t (value.integer z) = signed_decimal z
  value_octets layout t (value.enumerated z) = item_text (name_of (items_known t) z) z
  value_octets layout t value.null = codes "NULL"
  value_octets layout t (value.bit_string octets unused) = bits_text (bits_known t) octets unused
  value_octets layout t (value.octet_string octets) = hexadecimal octets
  value_octets layout t (value.object_identifier arcs) = arcs_text arcs
  value_octets layout t (value.characters characters) = characters_text (characters_known t) characters
  -- clauses 25 and 27
  value_octets layout t (value.fields fs) = in_braces layout (field_texts (inside layout) t 0 fs)
  -- clauses 26 and 28
  value_octets layout t (value.items vs) = in_braces layout (element_texts (inside layout) (element_type t) vs)
  -- clause 29
  value_octets layout t (value.chosen i v) =
      part_name t i ++ codes ": " ++ value_octets layout (type_within t (Component i)) v

  -- Each component that is there, with its name. The first of these is at place i.
  pub field_texts : Layout → Option AbstractType → ℕ → Fields → List (List ℕ)
  field_texts layout t i value.no_fields = []
  field_texts layout t i (value.present v fs) =
      (part_name t i ++ codes " " ++ value_octets layout (type_within t (Component i)) v)
      ∷ field_texts layout t (suc i) fs
  field_texts layout t i (value.absent fs) = field_texts layout t (suc i) fs

  -- the elements, each of this type
  pub element_texts : Layout → Option AbstractType → Items → List (List ℕ)
  element_texts layout t value.no_items = []
  element_texts layout t (value.item v vs) = value_octets layout t v ∷ element_texts layout t vs
