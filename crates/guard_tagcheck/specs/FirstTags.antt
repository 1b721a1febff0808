-- The tags with which an encoding of a type may begin.
use Rattle.std.specs.Prelude.{Bool, false, ◌||◌, [], ◌∷◌}
use Rattle.guard_model.specs.declared.tag.Tag.{Tag}
use Rattle.guard_model.specs.Tags.{same_tag}
use Rattle.guard_model.specs.AbstractType as type
use Rattle.guard_model.specs.AbstractType.{AbstractType, AbstractKind, Components, type_of, no_components, component}

abbrev mutual
  -- whether an encoding of the type may begin with the tag: the type's outermost tag does, and of an untagged CHOICE
  -- the first tags of all alternatives (X.680 8.1, 29.3)
  pub begins_with : AbstractType → Tag → Bool
  begins_with (type_of (t ∷ ts) kind cons) tag = same_tag t tag
  begins_with (type_of [] kind cons) tag = alternative_begins_with kind tag

  pub alternative_begins_with : AbstractKind → Tag → Bool
  alternative_begins_with (type.choice cs) tag = one_begins_with cs tag
  alternative_begins_with _ tag = false

  pub one_begins_with : Components → Tag → Bool
  one_begins_with no_components tag = false
  one_begins_with (component name t presence rest) tag = begins_with t tag || one_begins_with rest tag
