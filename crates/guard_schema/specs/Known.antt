-- What is known where a definition is built: what names mean there, of what is built before it.
use Rattle.std.specs.Prelude.{ℕ, List, [], ◌∷◌, ◌++◌, map, Option, Some, None, IfSome, IsTrue, slice_get}
use Rattle.std.specs.Option.{option_and_then}
use Rattle.guard_model.specs.AbstractType.{AbstractType}
use Rattle.guard_model.specs.AbstractValue.{AbstractValue}
use Rattle.guard_der.specs.Fits.{fits}
use Rattle.guard_der.specs.Sound.{is_sound}
use Rattle.guard_syntax.specs.Trees.{WrittenModule}
use Rattle.guard_names.specs.Declarations.{Definition}
use Rattle.guard_tagging.specs.Types.{Surroundings}
use Rattle.guard_tagging.specs.Skeletons.{AreSurroundings}
use Rattle.guard_values.specs.Meanings.{Governed, Meaning}
use Rattle.guard_names.specs.Places.{known_meant}
use Rattle.guard_constraints.specs.Visible.{Visible}

-- what is built of a definition: its type, which governs its value where it assigns one
pub record Built : Type 0 where
  pub ty : AbstractType
  pub value : Option AbstractValue

-- a sound type, and a value of it where one is assigned
abbrev pub IsSoundBuilt : Built → Type 0
IsSoundBuilt b = IsTrue (is_sound b.ty) × IfSome b.value (λ v. IsTrue (fits b.ty v))

-- the modules, the order of their definitions, and what is built of the first ones in that order
pub record Known : Type 0 where
  pub modules : List WrittenModule
  pub order : List ℕ
  pub built : List Built

abbrev pub none_known : List WrittenModule → List ℕ → Known
none_known modules order = record { modules = modules; order = order; built = [] }

abbrev pub with_built : Known → Built → Known
with_built k b = record { modules = k.modules; order = k.order; built = k.built ++ b ∷ [] }

abbrev pub types_of : List Built → List AbstractType
types_of bs = map (λ b. b.ty) bs

-- ---- what names mean

-- what is built of the definition at this place in the order
abbrev pub built_at : List Built → Option ℕ → Option Built
built_at bs place = option_and_then (slice_get bs) place

-- of the definition that a name means in the module of a name (X.680 13.1)
abbrev pub meant : Known → List ℕ → List ℕ → Option Built
meant k home name = known_meant k.modules k.order k.built home name

-- a value with its governor
abbrev pub governed_value : AbstractType → Option AbstractValue → Option Governed
governed_value t None = None
governed_value t (Some v) = Some (record { ty = t; value = v })

abbrev pub governed : Option Built → Option Governed
governed None = None
governed (Some b) = governed_value b.ty b.value

abbrev pub type_alone : Option Built → Option AbstractType
type_alone None = None
type_alone (Some b) = Some b.ty

-- for values and constraints that are written in the module of a name
abbrev pub visible : Known → List ℕ → Visible
visible k home = record {
  values = λ name. governed (meant k home name);
  types =
      λ name. type_alone (meant k home name);
}

-- ---- a value that stands alone, as if it were written in the module of a name (X.680 14.1)

-- What values names mean there. A module that has no definition may import some, and in one that isn't there no name
-- means a value.
abbrev pub values_in : Known → List ℕ → Meaning
values_in k home = (visible k home).values

-- ---- tags

-- for tags of a definition: the surroundings under which its type is written. The tag default that counts is that of
-- the module in which a type is written.
abbrev pub IsWrittenUnder : Known → Definition → Surroundings → Type 0
IsWrittenUnder k d surroundings = AreSurroundings k.modules k.order (types_of k.built) d surroundings
