-- Which tags a type has (X.680 clauses 8 and 31).
use Rattle.std.specs.Prelude.{ℕ, suc, Bool, true, false, List, [], ◌∷◌, Option, Some, None}
use Rattle.guard_model.specs.declared.tag.Class.{Class}
use Rattle.guard_model.specs.declared.tag.Class.TheVariants as class
use Rattle.guard_model.specs.declared.tag.Tag.{Tag}
use Rattle.guard_model.specs.AbstractType.{AbstractType, type_of, choice, Components, no_components, component}
use Rattle.guard_lexer.specs.Items.{number_value}
use Rattle.guard_syntax.specs.declared.tree.TagClass.{TagClass}
use Rattle.guard_syntax.specs.declared.tree.TagClass.TheVariants as word
use Rattle.guard_syntax.specs.declared.tree.TagDefault.{TagDefault}
use Rattle.guard_syntax.specs.declared.tree.TagDefault.TheVariants as by_default
use Rattle.guard_syntax.specs.declared.tree.TagMode.{TagMode}
use Rattle.guard_syntax.specs.declared.tree.TagMode.TheVariants as mode
use Rattle.guard_syntax.specs.Trees.{WrittenTag}

-- the class that is written (31.2): none is context-specific
abbrev pub class_of : Option TagClass → Class
class_of None = class.Context
class_of (Some word.Universal) = class.Universal
class_of (Some word.Application) = class.Application
class_of (Some word.Private) = class.Private

abbrev pub tag_of : WrittenTag → Tag
tag_of w = record { class = class_of w.class; number = number_value w.number }

-- a CHOICE with no tag of its own, references followed
abbrev pub is_untagged_choice : AbstractType → Bool
is_untagged_choice (type_of [] (choice cs) cons) = true
is_untagged_choice _ = false

-- A tag is explicit where its word says so; and where it has no word, under EXPLICIT TAGS, and on an untagged CHOICE
-- under any default (31.2.7). The word IMPLICIT on such a CHOICE is a fault.
abbrev pub is_explicit : Option TagMode → TagDefault → Bool → Bool
is_explicit (Some mode.Explicit) default on_choice = true
is_explicit (Some mode.Implicit) default on_choice = false
is_explicit None by_default.Explicit on_choice = true
is_explicit None by_default.Implicit on_choice = on_choice
is_explicit None by_default.Automatic on_choice = on_choice

-- An explicit tag is put round the others. An implicit one takes the place of the outermost (31.2.8): where there is
-- none, as on an untagged CHOICE, an implicit tag would find no place.
abbrev pub put_tag : Bool → Tag → AbstractType → AbstractType
put_tag true tag (type_of tags kind cons) = type_of (tag ∷ tags) kind cons
put_tag false tag (type_of [] kind cons) = type_of [] kind cons
put_tag false tag (type_of (outermost ∷ tags) kind cons) = type_of (tag ∷ tags) kind cons

abbrev pub with_tag : TagDefault → WrittenTag → AbstractType → AbstractType
with_tag default w t = put_tag (is_explicit w.mode default (is_untagged_choice t)) (tag_of w) t

-- the type with the tags that are written before it, the one next to it first
abbrev pub with_tags : TagDefault → List WrittenTag → AbstractType → AbstractType
with_tags default [] t = t
with_tags default (w ∷ ws) t = with_tag default w (with_tags default ws t)

-- ---- automatic tags (clauses 25, 27 and 29)

abbrev pub automatic_tag : ℕ → Tag
automatic_tag number = record { class = class.Context; number = number }

-- An automatic tag has no word, so that it is implicit, but explicit on an untagged CHOICE.
abbrev pub with_automatic_tag : Tag → AbstractType → AbstractType
with_automatic_tag tag t = put_tag (is_untagged_choice t) tag t

-- components with automatic tags, whose numbers begin with this one
abbrev pub with_automatic_tags : ℕ → Components → Components
with_automatic_tags number no_components = no_components
with_automatic_tags number (component name t presence cs) =
    component name (with_automatic_tag (automatic_tag number) t) presence (with_automatic_tags (suc number) cs)
