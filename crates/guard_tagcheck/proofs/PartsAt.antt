-- The part to which a step leads, by its place.
use Rattle.std.proofs.Common.{◌≡◌, ℕ, zero, suc, refl, option_map}
use Rattle.guard_model.specs.declared.site.Step.TheVariants.{Component}
use Rattle.guard_model.specs.AbstractType as type
use Rattle.guard_model.specs.AbstractType.{AbstractKind, Components, no_components, component}
use Rattle.guard_model.specs.Components.{component_at}
use Rattle.guard_model.specs.Kinds.{part_of}
use Rattle.guard_tagcheck.specs.Distinct.{component_type, part_at}

pub type_at_place : (cs : Components) (i : ℕ) → option_map (λ c. c.ty) (component_at i cs) ≡ component_type i cs
type_at_place no_components i = refl
type_at_place (component name t presence rest) zero = refl
type_at_place (component name t presence rest) (suc i) = type_at_place rest i

pub part_there : (kind : AbstractKind) (i : ℕ) → part_of i kind ≡ part_at kind (Component i)
part_there (type.sequence cs) i = type_at_place cs i
part_there (type.set cs) i = type_at_place cs i
part_there (type.choice cs) i = type_at_place cs i
part_there type.boolean i = refl
part_there (type.integer ns) i = refl
part_there (type.bit_string ns) i = refl
part_there type.octet_string i = refl
part_there type.null i = refl
part_there type.object_identifier i = refl
part_there (type.enumerated ns) i = refl
part_there (type.characters k) i = refl
part_there (type.sequence_of t) i = refl
part_there (type.set_of t) i = refl
