-- Schemas as the definitions see them.
use Rattle.std.specs.Prelude.{ℕ, suc, Bool, ◌&&◌, List, [], ◌∷◌, map, Option, Some, None, option_map, bytes_eq}
use Rattle.std.specs.Prelude.{if◌then◌else◌}
use Rattle.std.specs.Option.{option_and_then}
use Rattle.guard_model.specs.AbstractType.{AbstractType}
use Rattle.guard_model.specs.AbstractValue.{AbstractValue}
use Rattle.guard_der.specs.NamedTypes.{AbstractTypes, module_at}
use Rattle.guard_names.specs.Declarations.{Definition, definitions}
use Rattle.guard_names.specs.Places.{place_in}
use Rattle.guard_schema.specs.Known.{Built, Known, built_at}

-- The names of the modules in the order of their texts, and the type of each name to which the module of a name assigns
-- one. A name that a module imports is one of the module that assigns it.
pub record AbstractSchema : Type 0 where
  pub modules : List (List ℕ)
  pub types : List ℕ → List ℕ → Option AbstractType

-- ---- definitions by their names, of which no two have the same two where names have no fault (N1)

-- whether this one is in the module of a name and assigns this name
abbrev pub assigns : List ℕ → List ℕ → Definition → Bool
assigns home name d = bytes_eq home d.home.name && bytes_eq name d.assignment.name

-- the number of the first that does
abbrev pub number_assigned : List ℕ → List ℕ → List Definition → Option ℕ
number_assigned home name [] = None
number_assigned home name (d ∷ ds) = if assigns home name d then Some 0 else option_map suc
    (number_assigned home name ds)

-- ---- types by these names

-- a value assignment gives no type a name
abbrev pub type_unless : AbstractType → Option AbstractValue → Option AbstractType
type_unless t None = Some t
type_unless t (Some v) = None

abbrev pub assigned_type : Option Built → Option AbstractType
assigned_type None = None
assigned_type (Some b) = type_unless b.ty b.value

abbrev pub schema_of : Known → AbstractSchema
schema_of k = record {
  modules = map (λ m. m.name) k.modules;
  types = λ home name. assigned_type (built_at k.built
      (option_and_then (place_in k.order) (number_assigned home name (definitions k.modules))));
}

-- the name of the module at this place of the list of texts, from 1
abbrev pub module_named : AbstractSchema → ℕ → Option (List ℕ)
module_named s text = module_at s.modules text

-- what policies are loaded over
abbrev pub named_types : AbstractSchema → AbstractTypes
named_types s = record { modules = s.modules; types = s.types }
