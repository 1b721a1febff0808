-- A type of each kind, as it is made from its parts.
use Rattle.std.specs.Prelude.{ℕ, ◌+◌, ◌-◌, ◌^◌, min, true, false, List, [], map, Result, Ok}
use Rattle.guard_model.specs.Answer.{◌>>=◌}
use Rattle.guard_model.specs.inside.Each.{each}
use Rattle.guard_model.specs.AbstractType as type
use Rattle.guard_model.specs.AbstractType.{AbstractType, type_of}
use Rattle.guard_model.specs.TypeView.{components_of}
use Rattle.guard_tagcheck.specs.Limits.{nesting_inside}
use Rattle.guard_syntax.specs.Trees.{WrittenNamed, WrittenItem}
use Rattle.guard_syntax.specs.declared.tree.PlainType.{PlainType}
use Rattle.guard_syntax.specs.declared.tree.Collection.{Collection}
use Rattle.guard_tagging.specs.declared.fault.TagFault.{TagFault}
use Rattle.guard_tagging.specs.Faults.{Placed, duplicate_number, nodes_inside}
use Rattle.guard_tagging.specs.Named.{allowed}
use Rattle.guard_tagging.specs.inside.ReadItems.{read_named, read_bits, read_items}
use Rattle.guard_tagging.specs.inside.ReadNames.{named_place, item_place}
use Rattle.guard_tagging.specs.inside.ReadNodes.{Node, Whole, Made, tags_of, whole_with, made_from, made_with}
use Rattle.guard_tagging.specs.inside.ReadParts.{PartList, check_list}
use Rattle.guard_tagging.specs.Tagging.{is_untagged_choice}
use Rattle.guard_tagging.specs.Types.{universal, plain_number, plain_kind, collection_number, structure_kind, of_kind}

unfoldable pub plain_type : Node → PlainType → ℕ → Result Made TagFault
plain_type node p before =
    tags_of node (universal (plain_number p)) false >>= λ tags. whole_with node tags 0 before >>= λ whole.
    Ok (made_with whole (plain_kind p))

-- named numbers, named bits or items at these places
abbrev pub differ : List Placed → Result (Unit {0}) TagFault
differ places = allowed (duplicate_number places)

-- what a type with this universal tag has beside them
unfoldable pub numbered_whole : Node → ℕ → List Placed → ℕ → Result Whole TagFault
numbered_whole node number places before =
    tags_of node (universal number) false >>= λ tags. differ places >>= λ _. whole_with node tags 0 before

unfoldable pub integer_type : Node → List WrittenNamed → ℕ → Result Made TagFault
integer_type node ns before =
    numbered_whole node 2 (map named_place ns) before >>= λ whole. each read_named ns >>= λ numbers.
    Ok (made_with whole (type.integer numbers))

unfoldable pub bits_type : Node → List WrittenNamed → ℕ → Result Made TagFault
bits_type node bs before =
    numbered_whole node 3 (map named_place bs) before >>= λ whole. read_bits bs >>= λ bits.
    Ok (made_with whole (type.bit_string bits))

unfoldable pub enumerated_type : Node → List WrittenItem → ℕ → Result Made TagFault
enumerated_type node items before =
    numbered_whole node 10 (map item_place items) before >>= λ whole. read_items items >>= λ numbered.
    Ok (made_with whole (type.enumerated numbered))

unfoldable pub structure_type : Node → Collection → PartList → Result Made TagFault
structure_type node k parts =
    tags_of node (universal (collection_number k)) false >>= λ tags. check_list node.site parts >>= λ _.
    whole_with node tags parts.deepest parts.nodes >>= λ whole.
    Ok (made_with whole (structure_kind k (components_of parts.comps)))

unfoldable pub choice_type : Node → PartList → Result Made TagFault
choice_type node parts =
    tags_of node [] true >>= λ tags. check_list node.site parts >>= λ _.
    whole_with node tags (min (parts.deepest + 1) (2 ^ 64 - 1)) parts.nodes >>= λ whole.
    Ok (made_with whole (type.choice (components_of parts.comps)))

unfoldable pub of_type : Node → Collection → Made → Result Made TagFault
of_type node k element =
    tags_of node (universal (collection_number k)) false >>= λ tags.
    whole_with node tags element.nesting element.nodes >>= λ whole.
    Ok (made_with whole (of_kind k element.ty))

abbrev pub copied : Whole → AbstractType → Result Made TagFault
copied whole (type_of tags kind cons) = Ok (made_from whole kind cons)

-- a type of which only the tags are looked at before its limits
abbrev pub referred_to : Node → AbstractType → ℕ → Result Made TagFault
referred_to node (type_of tags kind cons) before =
    tags_of node tags (is_untagged_choice (type_of tags kind cons)) >>= λ all.
    whole_with node all (min (nesting_inside kind) 33) (min (before + nodes_inside kind) 100001) >>= λ whole.
    Ok (made_from whole kind cons)
