-- What all types have in common, as it is read.
use Rattle.std.specs.Prelude.{ℕ, ◌+◌, Bool, true, false, List, length, Option, is_some, Result, Ok, Err, nat_lt, if◌then◌else◌}
use Rattle.guard_model.specs.Answer.{◌>>=◌}
use Rattle.guard_model.specs.AbstractType.{AbstractType, AbstractKind, Constraints, type_of, no_constraints}
use Rattle.guard_model.specs.declared.site.Site.{Site}
use Rattle.guard_model.specs.declared.tag.Tag.{Tag}
use Rattle.guard_model.specs.Limits.{deepest_nesting}
use Rattle.guard_syntax.specs.Trees.{WrittenTag}
use Rattle.guard_syntax.specs.declared.tree.TagDefault.{TagDefault}
use Rattle.guard_tagging.specs.declared.fault.TagFault.{TagFault}
use Rattle.guard_tagging.specs.declared.fault.TagFault.TheVariants.{TooDeep, SchemaTooLarge}
use Rattle.guard_tagging.specs.Faults.{universal_tag, most_nodes}
use Rattle.guard_tagging.specs.Named.{allowed}
use Rattle.guard_tagging.specs.inside.ReadTags.{implicit_last, in_front, read_tags}

-- what is written of a type beside its base, whether it counts as a type, and the automatic tag that it gets, where it
-- gets one
pub record Node : Type 0 where
  pub site : Site
  pub tags : List WrittenTag
  pub tag_default : TagDefault
  pub counts : Bool
  pub automatic : Option Tag

-- what is known of a type that keeps the limits, beside its kind
pub record Whole : Type 0 where
  pub tags : List Tag
  pub nesting : ℕ
  pub nodes : ℕ

pub record Made : Type 0 where
  pub ty : AbstractType
  pub nesting : ℕ
  pub nodes : ℕ

unfoldable pub tags_of : Node → List Tag → Bool → Result (List Tag) TagFault
tags_of node base on_choice =
    allowed (universal_tag node.tags) >>= λ _. allowed (implicit_last on_choice node.tags) >>= λ _.
    read_tags node.tag_default (is_some node.automatic) (in_front node.automatic) node.tags base

abbrev pub one_where : Bool → ℕ
one_where true = 1
one_where false = 0

unfoldable pub nodes_with : Node → ℕ → Result ℕ TagFault
nodes_with node before =
    if nat_lt most_nodes (before + one_where node.counts) then Err (SchemaTooLarge node.site) else Ok
    (before + one_where node.counts)

unfoldable pub whole_with : Node → List Tag → ℕ → ℕ → Result Whole TagFault
whole_with node tags inside before =
    if nat_lt deepest_nesting (length tags + inside) then Err (TooDeep node.site)
    else (nodes_with node before >>= λ nodes.
    Ok (record { tags = tags; nesting = length tags + inside; nodes = nodes }))

abbrev pub made_from : Whole → AbstractKind → Constraints → Made
made_from whole kind cons = record { ty = type_of whole.tags kind cons; nesting = whole.nesting; nodes = whole.nodes }

-- a new type has no constraints of its own
abbrev pub made_with : Whole → AbstractKind → Made
made_with whole kind = made_from whole kind no_constraints
