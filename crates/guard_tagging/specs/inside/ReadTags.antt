-- Written tags as they are read, from the outside in.
use Rattle.std.specs.Prelude.{Bool, true, false, not, ◌&&◌, List, [], ◌∷◌, ◌++◌, Option, Some, None, Result, Ok, Err, nat_lt, length, ◌-◌, if◌then◌else◌}
use Rattle.std.specs.List.{slice_get}
use Rattle.guard_model.specs.Answer.{◌>>=◌}
use Rattle.guard_model.specs.declared.tag.Tag.{Tag}
use Rattle.guard_model.specs.Limits.{greatest_tag_number}
use Rattle.guard_lexer.specs.Items.{number_value}
use Rattle.guard_syntax.specs.Trees.{WrittenTag}
use Rattle.guard_syntax.specs.declared.tree.TagDefault.{TagDefault}
use Rattle.guard_tagging.specs.declared.fault.TagFault.{TagFault}
use Rattle.guard_tagging.specs.declared.fault.TagFault.TheVariants.{ImplicitChoice, TagTooLarge}
use Rattle.guard_tagging.specs.Tagging.{tag_of, is_explicit}
use Rattle.guard_tagging.specs.Faults.{fault_where, is_implicit}

-- what is wrong with the tag directly before a type
abbrev pub implicit_at : Bool → Option WrittenTag → Option TagFault
implicit_at on_choice None = None
implicit_at on_choice (Some w) = fault_where (on_choice && is_implicit w.mode) (ImplicitChoice w.site)

abbrev pub implicit_last : Bool → List WrittenTag → Option TagFault
implicit_last on_choice ws = implicit_at on_choice (slice_get ws (length ws - 1))

abbrev pub read_tag : WrittenTag → Result Tag TagFault
read_tag w = if nat_lt greatest_tag_number (number_value w.number) then Err (TagTooLarge w.site) else Ok (tag_of w)

-- the tags in front of those that are written: an automatic one, where there is one
abbrev pub in_front : Option Tag → List Tag
in_front None = []
in_front (Some tag) = tag ∷ []

-- what is left of these tags after one that replaces the outermost, or doesn't
abbrev pub kept : Bool → List Tag → List Tag
kept true [] = []
kept true (outermost ∷ tags) = tags
kept false tags = tags

abbrev pub unless_replaced : Bool → List Tag → Tag → List Tag
unless_replaced true front tag = front
unless_replaced false front tag = front ++ tag ∷ []

-- the tags in front, then those that are written, then those of the type itself
unfoldable pub read_tags : TagDefault → Bool → List Tag → List WrittenTag → List Tag → Result (List Tag) TagFault
read_tags default replaced front [] base = Ok (front ++ kept replaced base)
read_tags default replaced front (w ∷ ws) base =
    read_tag w >>= λ tag. read_tags default (not
    (is_explicit w.mode default false)) (unless_replaced replaced front tag) ws base
