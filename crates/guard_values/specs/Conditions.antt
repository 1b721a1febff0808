-- Why a written value denotes nothing: for each fault the condition that stands at its site. `Faults` has the order in
-- which they are looked for.
use Rattle.std.specs.Prelude.{◌≡◌, ℕ, suc, ◌+◌, ℤ, false, List, [], ◌∷◌, nat_lt, Option, Some, None, is_some, IsTrue, ◌⊎◌}
use Rattle.std.specs.Option.{option_map}
use Rattle.guard_model.specs.declared.site.Site.{Site}
use Rattle.guard_model.specs.AbstractType as type
use Rattle.guard_model.specs.AbstractType.{AbstractType, AbstractKind, Components, no_components, component}
use Rattle.guard_model.specs.AbstractValue.{AbstractValue}
use Rattle.guard_model.specs.Kinds.{kind_of, is_choice, is_integer, is_string, element_of}
use Rattle.guard_model.specs.Limits.{fits_128_bits}
use Rattle.guard_model.specs.SameType.{same_base}
use Rattle.guard_der.specs.Der.{der}
use Rattle.guard_der.specs.ProperConstraints.{is_short}
use Rattle.guard_syntax.specs.declared.tree.StringKind.TheVariants as string
use Rattle.guard_syntax.specs.Numbers.{number_of}
use Rattle.guard_syntax.specs.Trees as written
use Rattle.guard_syntax.specs.Trees.{WrittenArc, WrittenValue, WrittenValueForm, WrittenEntries, value_node, no_entries, entry}
use Rattle.guard_values.specs.declared.fault.ValueFault.{ValueFault}
use Rattle.guard_values.specs.declared.fault.ValueFault.TheVariants as fault
use Rattle.guard_values.specs.ObjectIdentifiers.{arc_number, arc_numbers, is_large, are_arcs}
use Rattle.guard_values.specs.Meanings.{Governed, Meaning, own_number}
use Rattle.guard_values.specs.NamedBits.{name_alone, named_bit}
use Rattle.guard_values.specs.Simple.{text_value}
use Rattle.guard_values.specs.Places.{located, entry_place, may_be_left_out}
use Rattle.guard_values.specs.Denotes.{alternatives_of, Says}
use Rattle.guard_values.specs.Forms.{takes, takes_entry, are_too_few_arcs, are_few_entries}

-- ---- entries of a list in braces

-- P holds of some entry: its site, its name and its value.
abbrev pub SomeEntry : (Site → Option (List ℕ) → WrittenValue → Type 0) → WrittenEntries → Type 0
SomeEntry P no_entries = ⊥
SomeEntry P (entry site name tree rest) = P site name tree ⊎ SomeEntry P rest

-- P holds of the name of some entry, and of the site and name of one that is written after it.
abbrev pub SomePair : (Option (List ℕ) → Site → Option (List ℕ) → Type 0) → WrittenEntries → Type 0
SomePair P no_entries = ⊥
SomePair P (entry site name tree rest) = SomeEntry (λ later other value. P name later other) rest ⊎ SomePair P rest

-- the components of a SEQUENCE or SET; other kinds have none
abbrev pub components_of : AbstractKind → Components
components_of (type.sequence cs) = cs
components_of (type.set cs) = cs
components_of _ = no_components

-- the components of a SEQUENCE alone
abbrev pub ordered_components : AbstractKind → Components
ordered_components (type.sequence cs) = cs
ordered_components _ = no_components

-- ---- V1

-- the name of a visible value whose type has another base; a name of the type's own list is none (clauses 19 and 20)
abbrev pub NamesOtherBase : Meaning → AbstractType → List ℕ → Type 0
NamesOtherBase m t name =
    (own_number (kind_of t) name ≡ None) × ((g : Governed) × (m name ≡ Some g) × (same_base t g.ty ≡ false))

abbrev pub HasWrongPart : Meaning → Site → AbstractType → Site → WrittenValueForm → Type 0
HasWrongPart m s t site (written.reference name) = (s ≡ site) × NamesOtherBase m t name
HasWrongPart m s t site (written.list es) =
    SomeEntry (λ place label tree. (s ≡ place) × (takes_entry (kind_of t) label tree ≡ false)) es
HasWrongPart m s t site _ = ⊥

-- V1, at the value: it has a form that is none of its type's, or is the name of a value of another type (16.2). Or, at
-- an entry: it can't stand in a list of that type.
abbrev pub IsWrongNotation : Meaning → Site → AbstractType → WrittenValue → Type 0
IsWrongNotation m s t (value_node site form) =
    ((s ≡ site) × (takes (kind_of t) form ≡ false)) ⊎ HasWrongPart m s t site form

-- ---- V2

-- an entry with the name of no component (clauses 25 and 27), or of no bit (22.5)
abbrev pub NamesNothing : AbstractKind → Option (List ℕ) → WrittenValue → Type 0
NamesNothing (type.sequence cs) label tree = (name : List ℕ) × (label ≡ Some name) × (located name cs ≡ None)
NamesNothing (type.set cs) label tree = (name : List ℕ) × (label ≡ Some name) × (located name cs ≡ None)
NamesNothing (type.bit_string []) label tree = ⊥
NamesNothing (type.bit_string (bit ∷ bits)) label tree =
    (name : List ℕ) × (name_alone label tree ≡ Some name) × (named_bit (bit ∷ bits) name ≡ None)
NamesNothing _ label tree = ⊥

-- V2, at the name: it is neither in the type's own list nor visible; or it is that of no alternative (clause 29), no
-- component and no bit.
abbrev pub IsUnknownName : Meaning → Site → AbstractType → WrittenValue → Type 0
IsUnknownName m s t (value_node site (written.reference name)) =
    (s ≡ site) × (own_number (kind_of t) name ≡ None) × (m name ≡ None)
IsUnknownName m s t (value_node site (written.chosen name tree)) =
    (s ≡ site) × IsTrue (is_choice (kind_of t)) × (located name (alternatives_of (kind_of t)) ≡ None)
IsUnknownName m s t (value_node site (written.list es)) =
    SomeEntry (λ place label tree. (s ≡ place) × NamesNothing (kind_of t) label tree) es
IsUnknownName m s t _ = ⊥

-- ---- V3, V4 and V5: components

-- no entry is for the component at this place
abbrev pub HasNoEntry : Components → WrittenEntries → ℕ → Type 0
HasNoEntry cs es i = SomeEntry (λ place label tree. entry_place cs label ≡ Some i) es → ⊥

-- one of these components, from this place on, is neither OPTIONAL nor has a DEFAULT, and has no entry
abbrev pub LacksEntry : Components → WrittenEntries → ℕ → Components → Type 0
LacksEntry cs es i no_components = ⊥
LacksEntry cs es i (component name t presence rest) =
    ((may_be_left_out presence ≡ false) × HasNoEntry cs es i) ⊎ LacksEntry cs es (suc i) rest

-- V3, at the brace: a component that may not be left out has no entry (clauses 25 and 27).
abbrev pub IsMissingComponent : Site → AbstractType → WrittenValue → Type 0
IsMissingComponent s t (value_node site (written.list es)) =
    (s ≡ site) × LacksEntry (components_of (kind_of t)) es 0 (components_of (kind_of t))
IsMissingComponent s t _ = ⊥

-- both are for one component
abbrev pub NameOneComponent : Components → Option (List ℕ) → Option (List ℕ) → Type 0
NameOneComponent cs earlier later = (i : ℕ) × (entry_place cs later ≡ Some i) × (entry_place cs earlier ≡ Some i)

-- V4, at the name: an entry that is written before is for the same component (clauses 25 and 27).
abbrev pub IsRepeatedComponent : Site → AbstractType → WrittenValue → Type 0
IsRepeatedComponent s t (value_node site (written.list es)) =
    SomePair (λ earlier place later. (s ≡ place) × NameOneComponent (components_of (kind_of t)) earlier later) es
IsRepeatedComponent s t _ = ⊥

-- the later entry is for a component that stands before that of the earlier one
abbrev pub NameInReverse : Components → Option (List ℕ) → Option (List ℕ) → Type 0
NameInReverse cs earlier later =
    (i : ℕ) × (entry_place cs later ≡ Some i) × ((j : ℕ) × (entry_place cs earlier ≡ Some j) × IsTrue (nat_lt i j))

-- V5, at the name: in a SEQUENCE an entry that is written before is for a component that stands after this one
-- (clause 25). A SET has its components in any order (clause 27).
abbrev pub IsOutOfOrder : Site → AbstractType → WrittenValue → Type 0
IsOutOfOrder s t (value_node site (written.list es)) =
    SomePair (λ earlier place later. (s ≡ place) × NameInReverse (ordered_components (kind_of t)) earlier later) es
IsOutOfOrder s t _ = ⊥

-- ---- V6 and V7

-- V6, at the string: not all of its characters are of the type's alphabet (clause 41).
abbrev pub IsBadCharacter : Site → AbstractType → WrittenValue → Type 0
IsBadCharacter s t (value_node site (written.text string.Characters spelling)) =
    (s ≡ site) × IsTrue (is_string (kind_of t)) × (text_value (kind_of t) string.Characters spelling ≡ None)
IsBadCharacter s t _ = ⊥

-- V7, at the brace: fewer than two arcs, or two that no object identifier begins with (clause 32).
abbrev pub IsBadObjectId : Site → AbstractType → WrittenValue → Type 0
IsBadObjectId s t (value_node site (written.arcs arcs)) =
    (s ≡ site) × (kind_of t ≡ type.object_identifier) × (are_arcs (arc_numbers arcs) ≡ false)
IsBadObjectId s t (value_node site (written.list es)) =
    (s ≡ site) × (kind_of t ≡ type.object_identifier) × IsTrue (are_too_few_arcs es)
IsBadObjectId s t _ = ⊥

-- ---- V8, but for encodings

abbrev pub HasLargeArc : Site → List WrittenArc → Type 0
HasLargeArc s [] = ⊥
HasLargeArc s (a ∷ arcs) = ((s ≡ a.site) × IsTrue (is_large (arc_number a))) ⊎ HasLargeArc s arcs

-- under the arc 2 the second one: both are in one number (X.690 8.19.4)
abbrev pub HasLargeSecond : Site → List WrittenArc → Type 0
HasLargeSecond s (a ∷ b ∷ arcs) = (s ≡ b.site) × (arc_number a ≡ 2) × IsTrue (is_large (80 + arc_number b))
HasLargeSecond s _ = ⊥

-- V8, at the number, the name of a number or the arc: it is outside this profile's limits; or, at the brace, so is the
-- number of elements.
abbrev pub IsTooLarge : Site → AbstractType → WrittenValue → Type 0
IsTooLarge s t (value_node site (written.integer n)) =
    (s ≡ n.site) × IsTrue (is_integer (kind_of t)) × (fits_128_bits (number_of n) ≡ false)
IsTooLarge s t (value_node site (written.reference name)) =
    (s ≡ site) × ((z : ℤ) × (own_number (kind_of t) name ≡ Some z) × (fits_128_bits z ≡ false))
IsTooLarge s t (value_node site (written.arcs arcs)) =
    (kind_of t ≡ type.object_identifier) × (HasLargeArc s arcs ⊎ HasLargeSecond s arcs)
IsTooLarge s t (value_node site (written.list es)) =
    (s ≡ site) × IsTrue (is_some (element_of (kind_of t))) × (are_few_entries es ≡ false)
IsTooLarge s t _ = ⊥

-- ---- of one value, by the fault

abbrev pub Stands : Meaning → ValueFault → AbstractType → WrittenValue → Type 0
Stands m (fault.WrongNotation s) t tree = IsWrongNotation m s t tree
Stands m (fault.UnknownName s) t tree = IsUnknownName m s t tree
Stands m (fault.MissingComponent s) t tree = IsMissingComponent s t tree
Stands m (fault.RepeatedComponent s) t tree = IsRepeatedComponent s t tree
Stands m (fault.OutOfOrder s) t tree = IsOutOfOrder s t tree
Stands m (fault.BadCharacter s) t tree = IsBadCharacter s t tree
Stands m (fault.BadObjectId s) t tree = IsBadObjectId s t tree
Stands m (fault.TooLarge s) t tree = IsTooLarge s t tree
Stands m fault.OutOfMemory t tree = ⊥

-- ---- of the values inside a value, each with its governor

-- the type of an entry's value
abbrev pub entry_type : AbstractKind → Option (List ℕ) → Option AbstractType
entry_type (type.sequence cs) (Some name) = option_map (λ l. l.ty) (located name cs)
entry_type (type.set cs) (Some name) = option_map (λ l. l.ty) (located name cs)
entry_type (type.sequence_of t) None = Some t
entry_type (type.set_of t) None = Some t
entry_type _ _ = None

-- the type of a chosen value
abbrev pub chosen_type : AbstractKind → List ℕ → Option AbstractType
chosen_type kind name = option_map (λ l. l.ty) (located name (alternatives_of kind))

abbrev mutual
  -- P holds of the written value, or of one inside it, each under its type.
  pub Somewhere : (AbstractType → WrittenValue → Type 0) → AbstractType → WrittenValue → Type 0
  Somewhere P t (value_node site form) = P t (value_node site form) ⊎ Inside P (kind_of t) form

  pub Inside : (AbstractType → WrittenValue → Type 0) → AbstractKind → WrittenValueForm → Type 0
  Inside P kind (written.chosen name tree) = (u : AbstractType) × (chosen_type kind name ≡ Some u) × Somewhere P u tree
  Inside P kind (written.list es) = InEntry P kind es
  Inside P kind (written.boolean b) = ⊥
  Inside P kind written.null = ⊥
  Inside P kind (written.integer n) = ⊥
  Inside P kind (written.text k spelling) = ⊥
  Inside P kind (written.reference name) = ⊥
  Inside P kind (written.arcs arcs) = ⊥

  pub InEntry : (AbstractType → WrittenValue → Type 0) → AbstractKind → WrittenEntries → Type 0
  InEntry P kind no_entries = ⊥
  InEntry P kind (entry site name tree rest) =
      ((u : AbstractType) × (entry_type kind name ≡ Some u) × Somewhere P u tree) ⊎ InEntry P kind rest

-- ---- V8 of encodings

-- what it says has an encoding of more than 1,048,576 octets, or none
abbrev pub HasLongEncoding : Meaning → AbstractType → WrittenValue → Type 0
HasLongEncoding m t tree = (v : AbstractValue) × Says m t tree v × (is_short (der t v) ≡ false)

-- V8, at the value: it has such an encoding, or one inside it has
abbrev pub IsTooLong : Meaning → AbstractType → WrittenValue → ValueFault → Type 0
IsTooLong m t (value_node site form) f = (f ≡ fault.TooLarge site) × Somewhere (HasLongEncoding m) t (value_node site form)

-- ---- all faults

-- The fault's condition stands at its site: in the written value or in one inside it, or an encoding is too long.
abbrev pub IsFaultIn : Meaning → AbstractType → WrittenValue → ValueFault → Type 0
IsFaultIn m t tree f = Somewhere (Stands m f) t tree ⊎ IsTooLong m t tree f
