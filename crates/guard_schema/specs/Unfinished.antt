-- A finished type without what its definition has filled in: the constraints that are written in its tree taken off
-- again, its defaults not known again. The constraints that a tree writes at a type are the last ones there: those of a
-- type that is referred to come first.
use Rattle.std.specs.Prelude.{◌≡◌, ℕ, zero, suc, List, [], ◌∷◌, Option, Some, None, Ok}
use Rattle.guard_model.specs.AbstractType as type
use Rattle.guard_model.specs.AbstractType.{AbstractType, AbstractKind, AbstractPresence, Components, Constraint}
use Rattle.guard_model.specs.AbstractType.{Constraints, type_of}
use Rattle.guard_syntax.specs.Trees.{WrittenConstraint, WrittenOfConstraint}
use Rattle.guard_syntax.specs.Trees.{WrittenPresence, mandatory, optional, default, WrittenType, type_node}
use Rattle.guard_syntax.specs.Trees.{WrittenBase, plain, numbers, named_bits, enumerated, structure, choice, of_type}
use Rattle.guard_syntax.specs.Trees.{named_type}
use Rattle.guard_syntax.specs.Trees.{WrittenComponents, no_components, component, components_from}
use Rattle.guard_syntax.specs.Trees.{WrittenAlternatives, no_alternatives, alternative}
use Rattle.guard_names.specs.Declarations.{Definition}
use Rattle.guard_tagging.specs.Types.{Surroundings, denoted, join}
use Rattle.guard_constraints.specs.Visible.{Visible}
use Rattle.guard_schema.specs.Known.{Built, Known, visible, IsWrittenUnder}
use Rattle.guard_schema.specs.Finishing.{constraint_before, count_put_in, Finishes}
use Rattle.guard_schema.specs.Building.{Builds}

-- ---- constraints

abbrev pub without_last : Constraints → Constraints
without_last type.no_constraints = type.no_constraints
without_last (type.constraint c type.no_constraints) = type.no_constraints
without_last (type.constraint c (type.constraint d ds)) = type.constraint c (without_last (type.constraint d ds))

-- without one for each that is written
abbrev pub without_written : List WrittenConstraint → Constraints → Constraints
without_written [] ds = ds
without_written (c ∷ cs) ds = without_last (without_written cs ds)

-- without the one before OF
abbrev pub without_before : Option WrittenOfConstraint → Constraints → Constraints
without_before None ds = ds
without_before (Some c) ds = without_last ds

-- ---- components

abbrev pub first_ones : ℕ → Components → Components
first_ones zero cs = type.no_components
first_ones (suc n) type.no_components = type.no_components
first_ones (suc n) (type.component name t presence cs) = type.component name t presence (first_ones n cs)

abbrev pub other_ones : ℕ → Components → Components
other_ones zero cs = cs
other_ones (suc n) type.no_components = type.no_components
other_ones (suc n) (type.component name t presence cs) = other_ones n cs

-- the first one with another type and presence, and the others as they are then
abbrev pub with_first : (AbstractType → AbstractType) → (AbstractPresence → AbstractPresence)
    → (Components → Components)
    → Components → Components
with_first change forget others type.no_components = type.no_components
with_first change forget others (type.component name t presence cs) =
    type.component name (change t) (forget presence) (others cs)

-- where a default is written, it isn't known
abbrev pub without_default : WrittenPresence → AbstractPresence → AbstractPresence
without_default mandatory presence = presence
without_default optional presence = presence
without_default (default tree) presence = type.pending

-- ---- kinds: a type has the kind that is written, so others don't matter

abbrev pub with_parts : (Components → Components) → AbstractKind → AbstractKind
with_parts change (type.sequence cs) = type.sequence (change cs)
with_parts change (type.set cs) = type.set (change cs)
with_parts change (type.choice cs) = type.choice (change cs)
with_parts change kind = kind

abbrev pub with_element : (AbstractType → AbstractType) → AbstractKind → AbstractKind
with_element change (type.sequence_of t) = type.sequence_of (change t)
with_element change (type.set_of t) = type.set_of (change t)
with_element change kind = kind

-- ---- types

module _ (names : Visible) where
  abbrev mutual
    pub unfinished : WrittenType → AbstractType → AbstractType
    unfinished (type_node site tags base cs) (type_of ts kind cons) =
        type_of ts (unfinished_kind base kind) (without_before (constraint_before base) (without_written cs cons))

    pub unfinished_kind : WrittenBase → AbstractKind → AbstractKind
    unfinished_kind (plain p) kind = kind
    unfinished_kind (numbers ns) kind = kind
    unfinished_kind (named_bits ns) kind = kind
    unfinished_kind (enumerated items) kind = kind
    unfinished_kind (structure k cs) kind = with_parts (unfinished_list cs) kind
    unfinished_kind (choice others) kind = with_parts (unfinished_others others) kind
    unfinished_kind (of_type k c t) kind = with_element (unfinished t) kind
    unfinished_kind (named_type site name) kind = kind

    pub unfinished_list : WrittenComponents → Components → Components
    unfinished_list no_components parts = parts
    unfinished_list (component site name t presence cs) parts =
        with_first (unfinished t) (without_default presence) (unfinished_list cs) parts
    unfinished_list (components_from site t cs) parts =
        join (unfinished_from t (first_ones (count_put_in names t) parts))
        (unfinished_list cs (other_ones (count_put_in names t) parts))

    pub unfinished_from : WrittenType → Components → Components
    unfinished_from (type_node site tags base cs) parts = unfinished_from_base base parts

    -- what COMPONENTS OF takes from a type that it refers to is that type's
    pub unfinished_from_base : WrittenBase → Components → Components
    unfinished_from_base (structure k cs) parts = unfinished_list cs parts
    unfinished_from_base (named_type site name) parts = parts
    unfinished_from_base (plain p) parts = parts
    unfinished_from_base (numbers ns) parts = parts
    unfinished_from_base (named_bits ns) parts = parts
    unfinished_from_base (enumerated items) parts = parts
    unfinished_from_base (choice others) parts = parts
    unfinished_from_base (of_type k c t) parts = parts

    pub unfinished_others : WrittenAlternatives → Components → Components
    unfinished_others no_alternatives parts = parts
    unfinished_others (alternative site name t others) parts =
        with_first (unfinished t) (λ presence. presence) (unfinished_others others) parts

-- ---- the laws

-- A finished type is the bare type again.
abbrev pub IsBareAgain : Type 0
IsBareAgain =
    (names : Visible) (tree : WrittenType) (bare t : AbstractType) → Finishes names tree bare (Ok t)
    → unfinished names tree t ≡ bare

-- The type of a definition that is built is again the one that its tree has by its tags.
abbrev pub IsTaggedAgain : Type 0
IsTaggedAgain =
    (k : Known) (d : Definition) (surroundings : Surroundings) (b : Built) → IsWrittenUnder k d surroundings
    → Builds k d (Ok b)
    → unfinished (visible k d.home.name) d.assignment.ty b.ty ≡ denoted surroundings d.assignment.ty
