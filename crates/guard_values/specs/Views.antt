-- What the code's results and arguments mean.
use Rattle.std.specs.Prelude.{ℕ, List, Option, Some, None, option_and_then, slice_get, IsTrue, IfSome}
use Rattle.std.specs.Option.{option_map}
use Rattle.std.specs.Borrow.{Bor}
use Rattle.std.specs.Global.{Global}
use Rattle.std.specs.declared.sync.Arc.{Arc}
use Rattle.guard_model.specs.AbstractType.{AbstractType}
use Rattle.guard_model.specs.AbstractValue.{AbstractValue}
use Rattle.guard_model.specs.TypeView.{shared_type_view, type_view}
use Rattle.guard_model.specs.ValueView.{value_view}
pub use Rattle.guard_model.specs.ValueView.{shared_view}
use Rattle.guard_model.specs.declared.ty.Ty.{Ty}
use Rattle.guard_model.specs.declared.value.Value.{Value}
use Rattle.guard_values.specs.declared.fault.ValueFault.{ValueFault}
use Rattle.guard_values.specs.declared.fault.ValueFault.TheVariants as fault
use Rattle.guard_values.specs.declared.scope.Known.{Known}
use Rattle.guard_values.specs.declared.scope.KnownValue.{KnownValue}
use Rattle.guard_values.specs.declared.scope.ModuleScope.{ModuleScope}
use Rattle.guard_values.specs.declared.scope.Scope.{Scope}
use Rattle.guard_values.specs.declared.scope.VisibleValue.{VisibleValue}
use Rattle.guard_values.specs.Meanings.{Governed, Meaning}
use Rattle.guard_names.specs.declared.names.Names.{Names}
use Rattle.guard_names.specs.Meanings.{number_meant_in, number_meant_from}
use Rattle.guard_names.specs.NamesView.{modules_of, order_of}
use Rattle.guard_names.specs.Places.{place_in, place_meant}
use Rattle.guard_der.specs.Fits.{fits}
use Rattle.guard_values.specs.declared.arrangement.Encoded.{Encoded}
use Rattle.guard_values.specs.Places.{Located}
use Rattle.guard_values.specs.Arrangement.{EncodedValue}

-- the fault that a refusal names, where memory didn't run out
abbrev pub named : ValueFault → Option ValueFault
named fault.OutOfMemory = None
named f = Some f

abbrev pub known_value_view : KnownValue → AbstractValue
known_value_view k = shared_view k.value

abbrev pub visible_view : VisibleValue → Governed
visible_view v = record { ty = type_view v.ty.now; value = shared_view v.value.now }

abbrev pub located_view : ℕ × Bor Ty → Located
located_view x = record { place = x.0; ty = type_view x.1.now }

abbrev pub encoded_view : Encoded → EncodedValue
encoded_view e = record { octets = e.octets.items; value = value_view e.value }

-- ---- what is known

-- a value and its type, where both are known
abbrev pub known_pair : Option (Arc Ty Global) → Option (Option (Arc Value Global)) → Option Governed
known_pair (Some t) (Some (Some v)) = Some (record { ty = shared_type_view t; value = shared_view v })
known_pair _ _ = None

abbrev pub known_at : Known → ℕ → Option Governed
known_at known place = known_pair (slice_get known.types.items place) (slice_get known.values.items place)

abbrev pub type_at : Known → ℕ → Option AbstractType
type_at known place = option_map shared_type_view (slice_get known.types.items place)

-- of the definition at this place in the order
abbrev pub known_definition : Known → Option ℕ → Option Governed
known_definition known None = None
known_definition known (Some place) = known_at known place

abbrev pub placed_type : Known → Option ℕ → Option AbstractType
placed_type known None = None
placed_type known (Some place) = type_at known place

-- each known value is one of its governor's
abbrev pub AreKnownFitting : Known → Type 0
AreKnownFitting known = (place : ℕ) → IfSome (known_at known place) (λ g. IsTrue (fits g.ty g.value))

-- ---- what names mean in the module of a definition

-- the place in the order of what a name means there
abbrev pub place_from : Names → ℕ → List ℕ → Option ℕ
place_from names id name = option_and_then (place_in (order_of names)) (number_meant_from (modules_of names) id name)

-- values
abbrev pub visible_from : Names → Known → ℕ → Meaning
visible_from names known id name = known_definition known (place_from names id name)

-- types, and of values their governors
abbrev pub types_from : Names → Known → ℕ → List ℕ → Option AbstractType
types_from names known id name = placed_type known (place_from names id name)

-- in a scope, which has the names, what is known and the definition
abbrev pub meaning_of : Scope → Meaning
meaning_of scope = visible_from scope.names.now scope.known.now scope.id

abbrev pub types_of : Scope → List ℕ → Option AbstractType
types_of scope = types_from scope.names.now scope.known.now scope.id

-- ---- what values names mean in the module of a name

abbrev pub visible_in : Names → Known → List ℕ → Meaning
visible_in names known home name = known_definition known (place_meant (modules_of names) (order_of names) home name)

-- in a scope, which has the names, what is known and the place of the module
abbrev pub values_of : ModuleScope → Meaning
values_of scope name =
    known_definition scope.known.now (option_and_then (place_in (order_of scope.names.now))
    (number_meant_in (modules_of scope.names.now) scope.home name))
