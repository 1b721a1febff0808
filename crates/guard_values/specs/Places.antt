-- Which component an entry in braces is for, and which components are left out (X.680 clauses 25 and 27).
use Rattle.std.specs.Prelude.{◌≡◌, ℕ, suc, Bool, true, false, ◌&&◌, ◌||◌, not, List, [], ◌∷◌, nat_le, nat_eq, Option, Some, None, if◌then◌else◌, bytes_eq}
use Rattle.std.specs.Option.{option_map}
use Rattle.guard_model.specs.AbstractType as type
use Rattle.guard_model.specs.AbstractType.{AbstractType, AbstractPresence, Components, no_components, component}
use Rattle.guard_model.specs.AbstractValue as value
use Rattle.guard_model.specs.AbstractValue.{AbstractValue, Fields}
use Rattle.guard_syntax.specs.Trees.{WrittenEntries, no_entries, entry}

-- ---- places

-- a component or alternative: its place in the list, from 0, and its type
pub record Located : Type 0 where
  pub place : ℕ
  pub ty : AbstractType

abbrev pub further : Located → Located
further l = record { place = suc l.place; ty = l.ty }

-- the first with this name
abbrev pub located : List ℕ → Components → Option Located
located name no_components = None
located name (component other t presence rest) =
    if bytes_eq name other then Some (record { place = 0; ty = t }) else option_map further (located name rest)

-- the place that an entry names
abbrev pub entry_place : Components → Option (List ℕ) → Option ℕ
entry_place cs None = None
entry_place cs (Some name) = option_map (λ l. l.place) (located name cs)

-- of each entry in written order
abbrev pub entry_places : Components → WrittenEntries → List (Option ℕ)
entry_places cs no_entries = []
entry_places cs (entry site name tree rest) = entry_place cs name ∷ entry_places cs rest

abbrev pub is_place : ℕ → Option ℕ → Bool
is_place i None = false
is_place i (Some j) = nat_eq i j

abbrev pub is_among : ℕ → List (Option ℕ) → Bool
is_among i [] = false
is_among i (p ∷ ps) = is_place i p || is_among i ps

-- In a SEQUENCE: each is a place, from this one on, and above those before it (clause 25).
abbrev pub are_in_order : ℕ → List (Option ℕ) → Bool
are_in_order next [] = true
are_in_order next (None ∷ ps) = false
are_in_order next (Some i ∷ ps) = nat_le next i && are_in_order (suc i) ps

-- In a SET: each is a place, and none comes twice (clause 27).
abbrev pub are_different : List (Option ℕ) → Bool
are_different [] = true
are_different (None ∷ ps) = false
are_different (Some i ∷ ps) = not (is_among i ps) && are_different ps

-- ---- components that are left out

-- those that are OPTIONAL or have a DEFAULT (clause 25)
abbrev pub may_be_left_out : AbstractPresence → Bool
may_be_left_out type.optional = true
may_be_left_out (type.default d) = true
may_be_left_out type.mandatory = false
may_be_left_out type.pending = false

-- An OPTIONAL one is absent, and one with a DEFAULT has that value (clause 25). Another may not be left out.
abbrev pub LeftOut : AbstractPresence → Option AbstractValue → Type 0
LeftOut type.optional field = field ≡ None
LeftOut (type.default d) field = field ≡ Some d
LeftOut type.mandatory field = ⊥
LeftOut type.pending field = ⊥

-- ---- all components

-- A field is what the entry for the component denotes, or what a component without an entry is.
abbrev pub FieldDenotes : Bool → (AbstractValue → Type 0) → AbstractPresence → Option AbstractValue → Type 0
FieldDenotes true Denoted presence field = (v : AbstractValue) × (field ≡ Some v) × Denoted v
FieldDenotes false Denoted presence field = LeftOut presence field

-- Each component has such a field, from this place on. `given` are the places that entries name.
abbrev pub FieldsDenote : List (Option ℕ) → (ℕ → AbstractType → AbstractValue → Type 0) → ℕ → Components → Fields
    → Type 0
FieldsDenote given Denoted i no_components value.no_fields = Unit {0}
FieldsDenote given Denoted i (component name t presence rest) (value.present v fs) =
    FieldDenotes (is_among i given) (Denoted i t) presence (Some v) × FieldsDenote given Denoted (suc i) rest fs
FieldsDenote given Denoted i (component name t presence rest) (value.absent fs) =
    FieldDenotes (is_among i given) (Denoted i t) presence None × FieldsDenote given Denoted (suc i) rest fs
FieldsDenote given Denoted i _ _ = ⊥
