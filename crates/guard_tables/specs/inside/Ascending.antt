-- Components of a type with outermost tags that ascend, as the parts that are laid for them do.
use Rattle.std.specs.Prelude.{Bool, true, ◌&&◌, Option}
use Rattle.guard_model.specs.declared.tag.Tag.{Tag}
use Rattle.guard_model.specs.AbstractType.{Components, no_components, component}
use Rattle.guard_tables.specs.TableNodes.{outer_tag, comes_next}
use Rattle.guard_tables.specs.Tables.{tags_of}

-- after this tag
abbrev pub components_ascend : Option Tag → Components → Bool
components_ascend last no_components = true
components_ascend last (component name t presence cs) =
    comes_next last (outer_tag (tags_of t)) && components_ascend (outer_tag (tags_of t)) cs
