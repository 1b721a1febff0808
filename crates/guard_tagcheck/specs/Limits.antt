-- The limits of this profile. Types inside constraints and defaults don't count.
use Rattle.std.specs.Prelude.{ℕ, suc, ◌+◌, Bool, true, false, ◌&&◌, ◌||◌, List, [], ◌∷◌, length, max, nat_le}
use Rattle.guard_model.specs.AbstractType as type
use Rattle.guard_model.specs.AbstractType.{AbstractType, AbstractKind, Components, type_of, no_components, component}
use Rattle.guard_model.specs.Components.{components_in}
use Rattle.guard_model.specs.Counts.{component_count}
use Rattle.guard_model.specs.Kinds.{is_choice}
use Rattle.guard_model.specs.Limits.{most_components, deepest_nesting, greatest_tag_number}
use Rattle.guard_model.specs.declared.tag.Tag.{Tag}

abbrev mutual
  -- How deep an encoding of the type is nested: its tags, for a CHOICE one more, and the deepest of its parts.
  pub nesting : AbstractType → ℕ
  nesting (type_of tags kind cons) = length tags + nesting_inside kind

  pub nesting_inside : AbstractKind → ℕ
  nesting_inside (type.sequence cs) = deepest cs
  nesting_inside (type.set cs) = deepest cs
  nesting_inside (type.choice cs) = suc (deepest cs)
  nesting_inside (type.sequence_of t) = nesting t
  nesting_inside (type.set_of t) = nesting t
  nesting_inside _ = 0

  pub deepest : Components → ℕ
  deepest no_components = 0
  deepest (component name t presence rest) = max (nesting t) (deepest rest)

abbrev mutual
  -- The type and each type inside it pass this test of their tags and their kind.
  pub every_type : (List Tag → AbstractKind → Bool) → AbstractType → Bool
  every_type test (type_of tags kind cons) = test tags kind && every_part test kind

  pub every_part : (List Tag → AbstractKind → Bool) → AbstractKind → Bool
  every_part test (type.sequence cs) = every_component test cs
  every_part test (type.set cs) = every_component test cs
  every_part test (type.choice cs) = every_component test cs
  every_part test (type.sequence_of t) = every_type test t
  every_part test (type.set_of t) = every_type test t
  every_part test _ = true

  pub every_component : (List Tag → AbstractKind → Bool) → Components → Bool
  every_component test no_components = true
  every_component test (component name t presence rest) = every_type test t && every_component test rest

abbrev pub has_tag : List Tag → Bool
has_tag [] = false
has_tag (t ∷ ts) = true

-- only a CHOICE may have no tag (X.680 8.1)
abbrev pub is_tagged : List Tag → AbstractKind → Bool
is_tagged tags kind = has_tag tags || is_choice kind

abbrev pub has_few_components : List Tag → AbstractKind → Bool
has_few_components tags kind = nat_le (component_count (components_in kind)) most_components

abbrev pub are_low : List Tag → Bool
are_low [] = true
are_low (t ∷ ts) = nat_le t.number greatest_tag_number && are_low ts

-- Tags are there except on a CHOICE, and no list of components or alternatives is too long.
abbrev pub is_formed : List Tag → AbstractKind → Bool
is_formed tags kind = is_tagged tags kind && has_few_components tags kind

abbrev pub keeps_limits : AbstractType → Bool
keeps_limits t = every_type is_formed t

abbrev pub parts_keep_limits : AbstractKind → Bool
parts_keep_limits kind = every_part is_formed kind

abbrev pub components_keep_limits : Components → Bool
components_keep_limits cs = every_component is_formed cs

-- ---- limits with a bound on the nesting

abbrev pub type_within : AbstractType → ℕ → Bool
type_within t depth = keeps_limits t && nat_le (nesting t) depth

abbrev pub kind_within : AbstractKind → ℕ → Bool
kind_within kind depth =
    nat_le (component_count (components_in kind)) most_components
    && (parts_keep_limits kind && nat_le (nesting_inside kind) depth)

abbrev pub all_within : Components → ℕ → Bool
all_within cs depth = components_keep_limits cs && nat_le (deepest cs) depth

-- what the check of tags needs
abbrev pub is_within_limits : AbstractType → Bool
is_within_limits t = type_within t deepest_nesting
