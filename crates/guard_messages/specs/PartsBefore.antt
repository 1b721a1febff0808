-- The parts of a message that stand whole before a breach. From the front on, an element is one that ends at the breach
-- or before it and encodes a value: it has a line with its path and its value. Any other element is entered, and so on
-- with the elements in it.
use Rattle.std.specs.Prelude.{◌≡◌, ◌⊎◌, ℕ, zero, suc, ◌+◌, ◌-◌, Bool, true, false, nat_le, nat_lt, List, [], ◌++◌, codes, decimal, length, take, drop, Option, Some, None, option_map, IsTrue, if◌then◌else◌}
use Rattle.guard_model.specs.declared.tag.Tag.{Tag}
use Rattle.guard_model.specs.AbstractType as type
use Rattle.guard_model.specs.AbstractType.{AbstractType, AbstractKind, Components, no_components, component}
use Rattle.guard_model.specs.AbstractValue.{AbstractValue}
use Rattle.guard_model.specs.Kinds.{kind_of}
use Rattle.guard_tagcheck.specs.FirstTags.{begins_with}
use Rattle.guard_der.specs.declared.element.Header.{Header}
use Rattle.guard_der.specs.Der.{der}
use Rattle.guard_der.specs.Fits.{fits}
use Rattle.guard_report.specs.declared.layout.Layout.TheVariants.{Line}
use Rattle.guard_report.specs.Places.{header_there, inside_value}
use Rattle.guard_report.specs.ValueText.{value_octets}
use Rattle.guard_notes.specs.Marking.{columns}

-- ---- what may begin at a place

pub data AbstractDue : Type 0 where
  -- the message's own element
  message : AbstractType → AbstractDue
  -- one of these components of a SEQUENCE, which come in their order (X.690 8.9.2)
  in_order : Components → AbstractDue
  -- any of these components of a SET (8.11.2), or of these alternatives (8.13)
  any_of : Components → AbstractDue
  -- the element of this number of an OF type (8.10, 8.12)
  element : ℕ → AbstractType → AbstractDue
  nothing : AbstractDue

-- in the contents of a value of the kind
abbrev pub due_inside : AbstractKind → AbstractDue
due_inside (type.sequence cs) = in_order cs
due_inside (type.set cs) = any_of cs
due_inside (type.choice cs) = any_of cs
due_inside (type.sequence_of t) = element 0 t
due_inside (type.set_of t) = element 0 t
due_inside type.boolean = nothing
due_inside (type.integer names) = nothing
due_inside (type.bit_string names) = nothing
due_inside type.octet_string = nothing
due_inside type.null = nothing
due_inside type.object_identifier = nothing
due_inside (type.enumerated items) = nothing
due_inside (type.characters kind) = nothing

-- a place in the message, the text of the path to what it is in, and what may begin there
pub record AbstractSpotIn : Type 0 where
  pub at : ℕ
  pub way : List ℕ
  pub due : AbstractDue

-- a part, with the text of the path to it, and what may begin after it
pub record AbstractPart : Type 0 where
  pub way : List ℕ
  pub ty : AbstractType
  pub after : AbstractDue

abbrev pub named_part : List ℕ → List ℕ → AbstractType → AbstractDue → AbstractPart
named_part way name t after = record { way = way ++ (codes "." ++ name); ty = t; after = after }

-- the first of these components to which an element with this tag belongs
abbrev pub part_in_order : List ℕ → Components → Tag → Option AbstractPart
part_in_order way no_components tag = None
part_in_order way (component name t presence rest) tag =
    if begins_with t tag then Some (named_part way name t (in_order rest)) else part_in_order way rest tag

abbrev pub part_among : List ℕ → AbstractDue → Components → Tag → Option AbstractPart
part_among way after no_components tag = None
part_among way after (component name t presence rest) tag =
    if begins_with t tag then Some (named_part way name t after) else part_among way after rest tag

-- the part that an element with this tag is
abbrev pub part_due : List ℕ → AbstractDue → Tag → Option AbstractPart
part_due way (message t) tag = Some (record { way = way; ty = t; after = nothing })
part_due way (in_order cs) tag = part_in_order way cs tag
part_due way (any_of cs) tag = part_among way (any_of cs) cs tag
part_due way (element i t) tag =
    Some (record { way = way ++ (codes "[" ++ (decimal i ++ codes "]")); ty = t; after = element (suc i) t })
part_due way nothing tag = None

-- ---- lines

-- its path and its value, as ASN.1 writes that, on one line of at most 120 columns
abbrev pub value_line : AbstractPart → AbstractValue → List ℕ
value_line p v =
    codes "  " ++ (p.way ++ (codes " " ++ (columns (value_octets Line (Some p.ty) v) ++ codes "\n")))

-- the octets are the encoding of this value of the part's type
abbrev pub IsWhole : AbstractPart → List ℕ → AbstractValue → Type 0
IsWhole p octets v = IsTrue (fits p.ty v) × (der p.ty v ≡ Some octets)

-- the lines of what comes from a spot on
abbrev pub Lines : Type 1
Lines = AbstractSpotIn → List ℕ → Type 0

-- A part that isn't whole is entered, where its contents begin inside its tags. An untagged CHOICE has none, so an
-- alternative begins at the same place.
abbrev pub spot_inside : AbstractPart → Option ℕ → Option AbstractSpotIn
spot_inside p at = option_map (λ place. record { at = place; way = p.way; due = due_inside (kind_of p.ty) }) at

abbrev pub LinesOn : Lines → Option AbstractSpotIn → List ℕ → Type 0
LinesOn From None lines = lines ≡ []
LinesOn From (Some s) lines = From s lines

-- By whether the part ends at the breach or before it. There it is no encoding of a value where what is missing in it
-- would come at its end.
abbrev pub LinesOfPart : Lines → List ℕ → AbstractSpotIn → ℕ → AbstractPart → Bool → List ℕ → Type 0
LinesOfPart From octets s end p true lines =
    let part_octets = take (end - s.at) (drop s.at octets) in
    ((v : AbstractValue) × (rest : List ℕ) × IsWhole p part_octets v
    × From (record { at = end; way = s.way; due = p.after }) rest × (lines ≡ value_line p v ++ rest))
    ⊎ (((v : AbstractValue) → IsWhole p part_octets v → ⊥)
    × LinesOn From (spot_inside p (inside_value octets (Some p.ty) (Some s.at))) lines)
LinesOfPart From octets s end p false lines =
    LinesOn From (spot_inside p (inside_value octets (Some p.ty) (Some s.at))) lines

abbrev pub LinesOfDue : Lines → List ℕ → ℕ → AbstractSpotIn → ℕ → Option AbstractPart → List ℕ → Type 0
LinesOfDue From octets breach s end None lines = lines ≡ []
LinesOfDue From octets breach s end (Some p) lines = LinesOfPart From octets s end p (nat_le end breach) lines

abbrev pub LinesAtHeader : Lines → List ℕ → ℕ → AbstractSpotIn → Option Header → List ℕ → Type 0
LinesAtHeader From octets breach s None lines = lines ≡ []
LinesAtHeader From octets breach s (Some h) lines =
    LinesOfDue From octets breach s h.end (part_due s.way s.due h.tag) lines

-- by whether the place is before the breach
abbrev pub LinesAt : Lines → List ℕ → ℕ → AbstractSpotIn → Bool → List ℕ → Type 0
LinesAt From octets breach s false lines = lines ≡ []
LinesAt From octets breach s true lines = LinesAtHeader From octets breach s (header_there octets (Some s.at)) lines

-- in at most so many steps
abbrev pub LinesFrom : ℕ → List ℕ → ℕ → AbstractSpotIn → List ℕ → Type 0
LinesFrom zero octets breach s lines = lines ≡ []
LinesFrom (suc n) octets breach s lines =
    LinesAt (LinesFrom n octets breach) octets breach s (nat_lt s.at breach) lines

-- Of a message of this type with a breach at this place. Each step passes two octets at least or enters one of the at
-- most 32 types that lie in one another, so there are steps enough.
abbrev pub AreLinesBefore : AbstractType → List ℕ → ℕ → List ℕ → Type 0
AreLinesBefore t octets breach lines =
    LinesFrom (length octets + 64) octets breach (record { at = 0; way = codes "$"; due = message t }) lines
