-- The value that a written value denotes under its governor, its type (X.680 clause 17).
use Rattle.std.specs.Prelude.{◌≡◌, ℕ, Bool, List, [], ◌∷◌, Some, None, length, nat_le, IsTrue, ◌⊎◌}
use Rattle.guard_model.specs.AbstractType as type
use Rattle.guard_model.specs.AbstractType.{AbstractType, AbstractKind, Components}
use Rattle.guard_model.specs.AbstractValue as value
use Rattle.guard_model.specs.AbstractValue.{AbstractValue, Fields, items_of}
use Rattle.guard_der.specs.Der.{der}
use Rattle.guard_der.specs.ProperConstraints.{is_short}
use Rattle.guard_syntax.specs.Trees as written
use Rattle.guard_syntax.specs.Trees.{WrittenValue, WrittenValueForm, WrittenEntries, value_node, no_entries, entry}
use Rattle.guard_values.specs.Meanings.{Meaning}
use Rattle.guard_model.specs.Kinds.{kind_of}
use Rattle.guard_values.specs.NamedBits.{places_named, ones_at}
use Rattle.guard_values.specs.Simple.{bits_value, boolean_value, null_value, integer_value, text_value, arcs_value, reference_value}
use Rattle.guard_values.specs.Places.{Located, located, entry_place, entry_places, are_in_order, are_different, FieldsDenote}
use Rattle.guard_values.specs.Arrangement.{arranged, are_short}

-- the alternatives of a CHOICE; other kinds have none
abbrev pub alternatives_of : AbstractKind → Components
alternatives_of (type.choice cs) = cs
alternatives_of _ = type.no_components

-- the name's alternative, and a value of it (clause 29)
abbrev pub ChosenDenotes : List ℕ → Components → (AbstractType → AbstractValue → Type 0) → AbstractValue → Type 0
ChosenDenotes name cs Denoted v =
    (l : Located) × (w : AbstractValue) × (located name cs ≡ Some l) × Denoted l.ty w × (v ≡ value.chosen l.place w)

-- this profile's limit on the elements of an OF type
abbrev pub are_few : List AbstractValue → Bool
are_few vs = nat_le (length vs) 4294967295

-- A value in braces, by the kind. `ForPlace i t w` says that the entry for the component at place i denotes w under t,
-- `Listed t ws` that the entries have no names and denote these in turn.
abbrev pub BracesDenote : AbstractKind → WrittenEntries → (Components → ℕ → AbstractType → AbstractValue → Type 0)
    → (AbstractType → List AbstractValue → Type 0) → AbstractValue → Type 0
-- clause 25: components in order, each once
BracesDenote (type.sequence cs) es ForPlace Listed v =
    IsTrue (are_in_order 0 (entry_places cs es))
    × ((fs : Fields) × FieldsDenote (entry_places cs es) (ForPlace cs) 0 cs fs × (v ≡ value.fields fs))
-- clause 27: in any order, each once
BracesDenote (type.set cs) es ForPlace Listed v =
    IsTrue (are_different (entry_places cs es))
    × ((fs : Fields) × FieldsDenote (entry_places cs es) (ForPlace cs) 0 cs fs × (v ≡ value.fields fs))
-- clause 26: in order
BracesDenote (type.sequence_of t) es ForPlace Listed v =
    (ws : List AbstractValue) × Listed t ws × IsTrue (are_few ws) × (v ≡ value.items (items_of ws))
-- clause 28: in any order; a value has them as their encodings ascend
BracesDenote (type.set_of t) es ForPlace Listed v =
    (ws : List AbstractValue) × Listed t ws × IsTrue (are_few ws) × IsTrue (are_short t ws)
    × (v ≡ value.items (items_of (arranged t ws)))
-- 22.6: ones at the bits that are named; braces aren't taken where no bit is
BracesDenote (type.bit_string (name ∷ names)) es ForPlace Listed v =
    (places : List ℕ) × (places_named (name ∷ names) es ≡ Some places) × (v ≡ bits_value (ones_at places))
BracesDenote (type.bit_string []) es ForPlace Listed v = ⊥
BracesDenote type.boolean es ForPlace Listed v = ⊥
BracesDenote (type.integer ns) es ForPlace Listed v = ⊥
BracesDenote type.octet_string es ForPlace Listed v = ⊥
BracesDenote type.null es ForPlace Listed v = ⊥
BracesDenote type.object_identifier es ForPlace Listed v = ⊥
BracesDenote (type.enumerated items) es ForPlace Listed v = ⊥
BracesDenote (type.characters k) es ForPlace Listed v = ⊥
BracesDenote (type.choice cs) es ForPlace Listed v = ⊥

abbrev mutual
  -- limits on encodings of the whole aside
  pub Says : Meaning → AbstractType → WrittenValue → AbstractValue → Type 0
  Says m t (value_node site form) v = FormSays m t form v

  pub FormSays : Meaning → AbstractType → WrittenValueForm → AbstractValue → Type 0
  FormSays m t (written.boolean b) v = boolean_value (kind_of t) b ≡ Some v
  FormSays m t written.null v = null_value (kind_of t) ≡ Some v
  FormSays m t (written.integer n) v = integer_value (kind_of t) n ≡ Some v
  FormSays m t (written.text k spelling) v = text_value (kind_of t) k spelling ≡ Some v
  FormSays m t (written.reference name) v = reference_value m t name ≡ Some v
  FormSays m t (written.chosen name tree) v =
      ChosenDenotes name (alternatives_of (kind_of t)) (λ u w. Says m u tree w) v
  FormSays m t (written.list es) v =
      BracesDenote (kind_of t) es (λ cs i u w. EntrySays m cs es i u w) (λ u ws. EntriesSay m u es ws) v
  FormSays m t (written.arcs arcs) v = arcs_value (kind_of t) arcs ≡ Some v

  -- the entry for the component at this place
  pub EntrySays : Meaning → Components → WrittenEntries → ℕ → AbstractType → AbstractValue → Type 0
  EntrySays m cs no_entries i t v = ⊥
  EntrySays m cs (entry site name tree rest) i t v =
      ((entry_place cs name ≡ Some i) × Says m t tree v) ⊎ EntrySays m cs rest i t v

  -- the entries in turn, none with a name
  pub EntriesSay : Meaning → AbstractType → WrittenEntries → List AbstractValue → Type 0
  EntriesSay m t no_entries vs = vs ≡ []
  EntriesSay m t (entry site None tree rest) vs =
      (v : AbstractValue) × (others : List AbstractValue) × Says m t tree v × EntriesSay m t rest others
      × (vs ≡ v ∷ others)
  EntriesSay m t (entry site (Some name) tree rest) vs = ⊥

-- The tree says the value, which has an encoding of at most 1,048,576 octets: this profile's limit on written values.
abbrev pub Denotes : Meaning → AbstractType → WrittenValue → AbstractValue → Type 0
Denotes m t tree v = Says m t tree v × IsTrue (is_short (der t v))
