-- What WITH COMPONENTS says of the presence of components and alternatives (X.680 51.8.5 to 51.8.9).
use Rattle.std.specs.Prelude.{ℕ, zero, suc, Bool, true, false, not, ◌&&◌, ◌||◌, nat_eq, Option, Some, None, if◌then◌else◌}
use Rattle.std.specs.Option.{is_some}
use Rattle.guard_model.specs.declared.ty.Word.{Word}
use Rattle.guard_model.specs.declared.ty.Word.TheVariants.{Present, Absent, Optional}
use Rattle.guard_model.specs.AbstractType as type
use Rattle.guard_model.specs.AbstractType.{AbstractType, AbstractKind, AbstractPresence, Components, Parts, type_of, no_components, component}
use Rattle.guard_model.specs.AbstractValue as value
use Rattle.guard_model.specs.AbstractValue.{AbstractValue, Fields}
use Rattle.guard_model.specs.Components.{components_in, component_at}
use Rattle.guard_model.specs.TypeView.{OneComponent}
use Rattle.guard_model.specs.Kinds.{is_choice, kind_of}
use Rattle.guard_der.specs.Fits.{may_be_absent}

-- ---- parts of a type and of a value

-- the kind of the elements of an OF type; other kinds have no elements
abbrev pub element_kind : AbstractKind → AbstractKind
element_kind (type.sequence_of t) = kind_of t
element_kind (type.set_of t) = kind_of t
element_kind kind = kind

abbrev pub kind_found : AbstractKind → Option OneComponent → AbstractKind
kind_found kind None = kind
kind_found kind (Some c) = kind_of c.ty

-- the kind of the component or alternative at this place
abbrev pub kind_at : ℕ → AbstractKind → AbstractKind
kind_at i kind = kind_found kind (component_at i (components_in kind))

-- SEQUENCE, SET and CHOICE have them
abbrev pub has_parts : AbstractValue → Bool
has_parts (value.fields fs) = true
has_parts (value.chosen i v) = true
has_parts _ = false

abbrev pub field_at : ℕ → Fields → Option AbstractValue
field_at i value.no_fields = None
field_at zero (value.present v fs) = Some v
field_at zero (value.absent fs) = None
field_at (suc i) (value.present v fs) = field_at i fs
field_at (suc i) (value.absent fs) = field_at i fs

-- the value of the component at this place, or of the alternative there if it is the chosen one
abbrev pub part_at : ℕ → AbstractValue → Option AbstractValue
part_at i (value.fields fs) = field_at i fs
part_at i (value.chosen j v) = if nat_eq i j then Some v else None
part_at i _ = None

-- a constraint on a component that isn't there is met
abbrev pub if_there : (AbstractValue → Bool) → Option AbstractValue → Bool
if_there test None = true
if_there test (Some v) = test v

abbrev pub is_there : ℕ → AbstractValue → Bool
is_there i v = is_some (part_at i v)

-- ---- of what is listed

-- The words mean what they say. Without one a full list makes an OPTIONAL component PRESENT.
abbrev pub is_as_said : Bool → AbstractPresence → Option Word → Bool → Bool
is_as_said partial presence (Some Present) there = there
is_as_said partial presence (Some Absent) there = not there
is_as_said partial presence (Some Optional) there = true
is_as_said partial presence None there = partial || not (may_be_absent presence) || there

-- of a component that the type doesn't have nothing holds
abbrev pub is_placed : Bool → Option OneComponent → Option Word → Bool → Bool
is_placed partial None word there = false
is_placed partial (Some c) word there = is_as_said partial c.presence word there

-- ---- of what is not listed

abbrev pub is_listed : ℕ → Parts → Bool
is_listed i type.no_parts = false
is_listed i (type.part site j word ps) = nat_eq i j || is_listed i ps
is_listed i (type.part_within site j c word ps) = nat_eq i j || is_listed i ps

-- a full list makes each OPTIONAL component and each alternative absent that it doesn't list
abbrev pub is_ruled_out : AbstractKind → Parts → ℕ → AbstractPresence → Bool
is_ruled_out kind ps i presence = not (is_listed i ps) && (is_choice kind || may_be_absent presence)

-- the first of these components that should be absent and is there; their own first one is component i
abbrev pub first_ruled_out : AbstractKind → Parts → AbstractValue → ℕ → Components → Option ℕ
first_ruled_out kind ps v i no_components = None
first_ruled_out kind ps v i (component name t presence rest) =
    if is_ruled_out kind ps i presence && is_there i v then Some i else first_ruled_out kind ps v (suc i) rest

abbrev pub first_intruder : Bool → AbstractKind → Parts → AbstractValue → Option ℕ
first_intruder true kind ps v = None
first_intruder false kind ps v = first_ruled_out kind ps v 0 (components_in kind)
