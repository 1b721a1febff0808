-- Which definitions are lists of components or alternatives that are tagged automatically (X.680 clauses 25, 27 and
-- 29). It depends on what is written and on what names mean, and on nothing that is built.
use Rattle.std.specs.Prelude.{◌≡◌, ℕ, true, List, Some, slice_get}
use Rattle.guard_model.specs.declared.site.Site.{Site}
use Rattle.guard_syntax.specs.declared.tree.TagDefault.{TagDefault}
use Rattle.guard_syntax.specs.Trees.{WrittenType, type_node, WrittenBase, plain, numbers, named_bits, enumerated, structure, choice, of_type, named_type, WrittenModule}
use Rattle.guard_names.specs.Declarations.{Definition, definitions}
use Rattle.guard_names.specs.Meanings.{Means}
use Rattle.guard_tagging.specs.Surroundings.{tag_default_of}
use Rattle.guard_tagging.specs.Types.{is_automatic_list, is_automatic_choice}

-- what is written after the tags of a type
abbrev pub base_of : WrittenType → WrittenBase
base_of (type_node site tags base cons) = base

-- Under this tag default it is a SEQUENCE, SET or CHOICE whose own parts get automatic tags: the default is AUTOMATIC
-- TAGS, and no type of these parts begins with a tag. What COMPONENTS OF puts in doesn't count.
abbrev pub IsAutomaticList : TagDefault → WrittenBase → Type 0
IsAutomaticList default (plain p) = ⊥
IsAutomaticList default (numbers ns) = ⊥
IsAutomaticList default (named_bits bs) = ⊥
IsAutomaticList default (enumerated items) = ⊥
IsAutomaticList default (structure kind cs) = is_automatic_list default cs ≡ true
IsAutomaticList default (choice others) = is_automatic_choice default others ≡ true
IsAutomaticList default (of_type kind cons t) = ⊥
IsAutomaticList default (named_type site name) = ⊥

module _ (ms : List WrittenModule) where
  -- The definition of this number is such a list: it is written as one under the tag default of its module, or its type
  -- is a name that means such a definition in its module. Tags before the list or the name change nothing.
  pub data Automatic : ℕ → Type 0 where
    as_list : {number : ℕ} → (d : Definition) → slice_get (definitions ms) number ≡ Some d
        → IsAutomaticList (tag_default_of d.home.tag_default) (base_of d.assignment.ty) → Automatic number
    by_name : {number : ℕ} → (d : Definition) → slice_get (definitions ms) number ≡ Some d
        → (site : Site) → (name : List ℕ) → base_of d.assignment.ty ≡ named_type site name
        → (other : ℕ) → Means ms d.home.name name other → Automatic other → Automatic number
