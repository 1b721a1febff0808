-- What two components that clash have in common.
use Rattle.std.specs.Prelude.{ℕ, List, [], ◌∷◌, Option, Some, None, option_map, if◌then◌else◌}
use Rattle.std.specs.Option.{option_or, option_and_then}
use Rattle.guard_model.specs.declared.tag.Tag.{Tag}
use Rattle.guard_model.specs.AbstractType as type
use Rattle.guard_model.specs.AbstractType.{AbstractType, AbstractKind, Components, type_of, no_components, component}
use Rattle.guard_model.specs.TypeView.{OneComponent}
use Rattle.guard_model.specs.Components.{components_in, component_at}
use Rattle.guard_tagcheck.specs.FirstTags.{begins_with}
use Rattle.guard_tagcheck.specs.Distinct.{AbstractClash, type_at}

-- the names of both, and a tag with which an encoding of either may begin
pub record AbstractCommon : Type 0 where
  pub first : List ℕ
  pub second : List ℕ
  pub tag : Tag

abbrev mutual
  -- the first tag with which the one type may begin and the other as well
  pub shared_tag : AbstractType → AbstractType → Option Tag
  shared_tag (type_of (t ∷ ts) kind cons) b = if begins_with b t then Some t else None
  shared_tag (type_of [] kind cons) b = tag_of_alternative kind b

  pub tag_of_alternative : AbstractKind → AbstractType → Option Tag
  tag_of_alternative (type.choice cs) b = tag_of_one cs b
  tag_of_alternative _ b = None

  pub tag_of_one : Components → AbstractType → Option Tag
  tag_of_one no_components b = None
  tag_of_one (component name t presence rest) b = option_or (shared_tag t b) (tag_of_one rest b)

abbrev pub named : OneComponent → OneComponent → Tag → AbstractCommon
named a b tag = record { first = a.name; second = b.name; tag = tag }

abbrev pub common_by : Option OneComponent → Option OneComponent → Option AbstractCommon
common_by None other = None
common_by (Some a) None = None
common_by (Some a) (Some b) = option_map (named a b) (shared_tag a.ty b.ty)

-- by the components at these places
abbrev pub common_in : AbstractType → ℕ → ℕ → Option AbstractCommon
common_in (type_of tags kind cons) i j =
    common_by (component_at i (components_in kind)) (component_at j (components_in kind))

-- by those of a clash; None where the type has none there or they share no tag
abbrev pub in_common : AbstractType → AbstractClash → Option AbstractCommon
in_common t c = option_and_then (λ u. common_in u c.first c.second) (type_at c.path t)
