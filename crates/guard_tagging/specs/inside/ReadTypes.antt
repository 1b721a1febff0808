-- Types as the walk reads them: the parts in written order, and then the whole.
use Rattle.std.specs.Prelude.{ℕ, Bool, true, false, ◌||◌, Option, None, Result, Ok}
use Rattle.guard_model.specs.Answer.{◌>>=◌}
use Rattle.guard_model.specs.declared.site.Site.{Site}
use Rattle.guard_model.specs.declared.tag.Tag.{Tag}
use Rattle.guard_model.specs.AbstractType as type
use Rattle.guard_syntax.specs.declared.tree.Collection.{Collection}
use Rattle.guard_syntax.specs.Trees.{WrittenType, type_node, WrittenBase, plain, numbers, named_bits, enumerated, structure, choice, of_type, named_type, WrittenComponents, no_components, component, components_from, WrittenAlternatives, no_alternatives, alternative, WrittenComponentForm, named, components_of_type, WrittenComponent, WrittenAlternative}
use Rattle.guard_tagging.specs.declared.fault.TagFault.{TagFault}
use Rattle.guard_tagging.specs.inside.ReadBases as make
use Rattle.guard_tagging.specs.inside.ReadNodes.{Node, Made}
use Rattle.guard_tagging.specs.inside.ReadParts.{PartList, no_parts, next_tag, with_component, taken_in}
use Rattle.guard_tagging.specs.Types.{Surroundings, meant, presence_of, begins_with_tag, is_automatic, is_automatic_list, is_automatic_choice}

abbrev pub is_tagged_entry : WrittenComponentForm → Bool
is_tagged_entry (named name t presence) = begins_with_tag t
is_tagged_entry (components_of_type t) = false

unfoldable mutual
  pub read_type : Surroundings → Bool → Option Tag → ℕ → WrittenType → Result Made TagFault
  read_type around counts automatic before (type_node site tags base cons) =
      read_base around (record {
        site = site;
        tags = tags;
        tag_default = around.tag_default;
        counts = counts;
        automatic = automatic;
      }) before base

  pub read_base : Surroundings → Node → ℕ → WrittenBase → Result Made TagFault
  read_base around node before (plain p) = make.plain_type node p before
  read_base around node before (numbers ns) = make.integer_type node ns before
  read_base around node before (named_bits bs) = make.bits_type node bs before
  read_base around node before (enumerated items) = make.enumerated_type node items before
  read_base around node before (structure k cs) =
      read_components around k (is_automatic_list around.tag_default cs) (no_parts before) cs >>= λ parts.
      make.structure_type node k parts
  read_base around node before (choice others) =
      read_alternatives around (is_automatic_choice around.tag_default others) (no_parts before) others >>= λ parts.
      make.choice_type node parts
  read_base around node before (of_type k cons t) =
      read_type around true None before t >>= λ element. make.of_type node k element
  read_base around node before (named_type site name) = make.referred_to node (meant (around.meaning name)) before

  pub read_components : Surroundings → Collection → Bool → PartList → WrittenComponents → Result PartList TagFault
  read_components around k automatic parts no_components = Ok parts
  read_components around k automatic parts (component site name t presence cs) =
      read_type around true (next_tag automatic parts) parts.nodes t >>= λ made.
      read_components around k automatic (with_component parts site name made (presence_of presence)) cs
  read_components around k automatic parts (components_from site t cs) =
      read_type around false None parts.nodes t >>= λ made.
      read_components around k automatic (taken_in parts k (automatic || is_automatic around t) site made) cs

  pub read_alternatives : Surroundings → Bool → PartList → WrittenAlternatives → Result PartList TagFault
  read_alternatives around automatic parts no_alternatives = Ok parts
  read_alternatives around automatic parts (alternative site name t others) =
      read_type around true (next_tag automatic parts) parts.nodes t >>= λ made.
      read_alternatives around automatic (with_component parts site name made type.mandatory) others

-- ---- one level of it

abbrev pub read_elements : Surroundings → Node → Collection → ℕ → WrittenType → Result Made TagFault
read_elements around node k before t = read_type around true None before t >>= λ element. make.of_type node k element

abbrev pub read_list : Surroundings → Collection → ℕ → WrittenComponents → Result PartList TagFault
read_list around k before cs = read_components around k (is_automatic_list around.tag_default cs) (no_parts before) cs

abbrev pub read_choice : Surroundings → ℕ → WrittenAlternatives → Result PartList TagFault
read_choice around before others =
    read_alternatives around (is_automatic_choice around.tag_default others) (no_parts before) others

abbrev pub read_entry : Surroundings → Collection → Bool → PartList → Site → WrittenComponentForm
    → Result PartList TagFault
read_entry around k automatic parts site (named name t presence) =
    read_type around true (next_tag automatic parts) parts.nodes t >>= λ made.
    Ok (with_component parts site name made (presence_of presence))
read_entry around k automatic parts site (components_of_type t) =
    read_type around false None parts.nodes t >>= λ made.
    Ok (taken_in parts k (automatic || is_automatic around t) site made)

abbrev pub read_component : Surroundings → Collection → Bool → PartList → WrittenComponent → Result PartList TagFault
read_component around k automatic parts c = read_entry around k automatic parts c.site c.form

abbrev pub read_one : Surroundings → Bool → PartList → WrittenAlternative → Result PartList TagFault
read_one around automatic parts a =
    read_type around true (next_tag automatic parts) parts.nodes a.ty >>= λ made.
    Ok (with_component parts a.site a.name made type.mandatory)
