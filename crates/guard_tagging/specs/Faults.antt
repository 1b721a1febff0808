-- What is wrong with a written type. Its parts come before the whole, in written order; of several faults at one place
-- the first is named, in the order of their numbers.
use Rattle.std.specs.Prelude.{ℕ, suc, ◌+◌, Bool, true, false, not, ◌&&◌, ◌||◌, List, [], ◌∷◌, ◌++◌, map, Option, Some, None, nat_lt, nat_le, nat_eq, ℤ, pos, negsuc, option_map, bytes_eq, if◌then◌else◌}
use Rattle.std.specs.List.{list_any}
use Rattle.std.specs.Option.{option_or}
use Rattle.std.specs.Ordering.{int_eq}
use Rattle.guard_model.specs.declared.site.Site.{Site}
use Rattle.guard_model.specs.declared.tag.Tag.{Tag}
use Rattle.guard_model.specs.Tags.{class_rank}
use Rattle.guard_tagcheck.specs.Limits.{nesting}
use Rattle.guard_model.specs.AbstractType as type
use Rattle.guard_model.specs.AbstractType.{AbstractType, AbstractKind, Components, NamedNumber, type_of}
use Rattle.guard_model.specs.Counts.{component_count}
use Rattle.guard_model.specs.Limits.{most_components, deepest_nesting, greatest_tag_number, fits_128_bits, greatest_bit}
use Rattle.guard_lexer.specs.Items.{number_value}
use Rattle.guard_syntax.specs.declared.tree.Collection.{Collection}
use Rattle.guard_syntax.specs.declared.tree.Collection.TheVariants as collection
use Rattle.guard_syntax.specs.declared.tree.TagClass.{TagClass}
use Rattle.guard_syntax.specs.declared.tree.TagClass.TheVariants as word
use Rattle.guard_syntax.specs.declared.tree.TagMode.{TagMode}
use Rattle.guard_syntax.specs.declared.tree.TagMode.TheVariants as mode
use Rattle.guard_syntax.specs.Trees.{WrittenTag, WrittenNamed, WrittenItem, WrittenType, type_node, WrittenBase, plain, numbers, named_bits, enumerated, structure, choice, of_type, named_type, WrittenComponents, no_components, component, components_from, WrittenAlternatives, no_alternatives, alternative}
use Rattle.guard_tagging.specs.declared.fault.TagFault.{TagFault}
use Rattle.guard_tagging.specs.declared.fault.TagFault.TheVariants.{UniversalTag, ImplicitChoice, TagTooLarge, ComponentsOfKind, ComponentsOfAutomatic, ComponentsOfTagged, DuplicateName, DuplicateNumber, TooManyComponents, TooDeep, SchemaTooLarge, NumberTooLarge}
use Rattle.guard_syntax.specs.Numbers.{number_of}
use Rattle.guard_tagging.specs.Tagging.{is_untagged_choice, automatic_tag, with_automatic_tag}
use Rattle.guard_tagging.specs.Types.{Surroundings, denoted, denoted_base, denoted_components, denoted_alternatives, parts_of, is_automatic, is_automatic_list, is_automatic_choice}

-- the first of these that is there
abbrev pub first_of : List (Option TagFault) → Option TagFault
first_of [] = None
first_of (fault ∷ others) = option_or fault (first_of others)

abbrev pub fault_where : Bool → TagFault → Option TagFault
fault_where wrong fault = if wrong then Some fault else None

-- ---- sizes

abbrev mutual
  -- the types that a type is made of, itself among them: those of components, alternatives and elements
  pub nodes : AbstractType → ℕ
  nodes (type_of tags kind cons) = suc (nodes_inside kind)

  pub nodes_inside : AbstractKind → ℕ
  nodes_inside (type.sequence cs) = nodes_of_components cs
  nodes_inside (type.set cs) = nodes_of_components cs
  nodes_inside (type.choice cs) = nodes_of_components cs
  nodes_inside (type.sequence_of t) = nodes t
  nodes_inside (type.set_of t) = nodes t
  nodes_inside type.boolean = 0
  nodes_inside (type.integer ns) = 0
  nodes_inside (type.bit_string bits) = 0
  nodes_inside type.octet_string = 0
  nodes_inside type.null = 0
  nodes_inside type.object_identifier = 0
  nodes_inside (type.enumerated ns) = 0
  nodes_inside (type.characters c) = 0

  pub nodes_of_components : Components → ℕ
  nodes_of_components type.no_components = 0
  nodes_of_components (type.component name t presence cs) = nodes t + nodes_of_components cs

abbrev pub nodes_within : AbstractType → ℕ
nodes_within (type_of tags kind cons) = nodes_inside kind

-- over all definitions
abbrev pub most_nodes : ℕ
most_nodes = 100000

-- ---- tags

abbrev pub is_universal : Option TagClass → Bool
is_universal None = false
is_universal (Some word.Universal) = true
is_universal (Some word.Application) = false
is_universal (Some word.Private) = false

abbrev pub universal_tag : List WrittenTag → Option TagFault
universal_tag [] = None
universal_tag (w ∷ ws) = option_or (fault_where (is_universal w.class) (UniversalTag w.site)) (universal_tag ws)

abbrev pub is_implicit : Option TagMode → Bool
is_implicit None = false
is_implicit (Some mode.Implicit) = true
is_implicit (Some mode.Explicit) = false

-- IMPLICIT on a CHOICE that has no tag (31.2.9). A tag before another one is on a type that has a tag.
abbrev pub implicit_choice : AbstractType → List WrittenTag → Option TagFault
implicit_choice t [] = None
implicit_choice t (w ∷ []) = fault_where (is_implicit w.mode && is_untagged_choice t) (ImplicitChoice w.site)
implicit_choice t (w ∷ v ∷ ws) = implicit_choice t (v ∷ ws)

abbrev pub tag_too_large : List WrittenTag → Option TagFault
tag_too_large [] = None
tag_too_large (w ∷ ws) =
    option_or (fault_where (nat_lt greatest_tag_number (number_value w.number)) (TagTooLarge w.site)) (tag_too_large ws)

-- ---- COMPONENTS OF

abbrev pub is_kind_of : Collection → AbstractKind → Bool
is_kind_of collection.Sequence (type.sequence cs) = true
is_kind_of collection.Set (type.set cs) = true
is_kind_of collection kind = false

abbrev pub is_of_kind : Collection → AbstractType → Bool
is_of_kind collection (type_of tags kind cons) = is_kind_of collection kind

-- one universal tag, as a type has that isn't tagged
abbrev pub is_plain_tag : List Tag → Bool
is_plain_tag [] = false
is_plain_tag (t ∷ []) = nat_eq (class_rank t.class) 0
is_plain_tag (t ∷ u ∷ ts) = false

abbrev pub is_tagged : AbstractType → Bool
is_tagged (type_of tags kind cons) = not (is_plain_tag tags)

-- COMPONENTS OF a type that isn't of the list's own kind
abbrev pub takes_other_kind : Surroundings → Collection → WrittenType → Bool
takes_other_kind around kind t = not (is_of_kind kind (denoted around t))

-- COMPONENTS OF in a list that is tagged automatically, or of such a list
abbrev pub takes_automatic : Surroundings → Bool → WrittenType → Bool
takes_automatic around automatic t = automatic || is_automatic around t

abbrev pub takes_tagged : Surroundings → WrittenType → Bool
takes_tagged around t = is_tagged (denoted around t)

-- the first COMPONENTS OF in a list that takes in such a type: at its word
abbrev pub first_taking : (WrittenType → Bool) → WrittenComponents → Option Site
first_taking wrong no_components = None
first_taking wrong (component site name t presence cs) = first_taking wrong cs
first_taking wrong (components_from site t cs) = if wrong t then Some site else first_taking wrong cs

-- What COMPONENTS OF may not take in is a fault of the list that it is an entry of. The number of the fault counts
-- first, then which entry it is.
abbrev pub taken_fault : Surroundings → Collection → Bool → WrittenComponents → Option TagFault
taken_fault around kind automatic cs =
    first_of (option_map (λ site. ComponentsOfKind site) (first_taking (takes_other_kind around kind) cs)
    ∷ option_map (λ site. ComponentsOfAutomatic site) (first_taking (takes_automatic around automatic) cs)
    ∷ option_map (λ site. ComponentsOfTagged site) (first_taking (takes_tagged around) cs) ∷ [])

-- whether it takes in what it may not
abbrev pub takes_wrongly : Surroundings → Collection → Bool → WrittenType → Bool
takes_wrongly around kind automatic t =
    takes_other_kind around kind t || (takes_automatic around automatic t || takes_tagged around t)

-- ---- names and numbers

-- a name with its site, and its number where it has one
pub record Placed : Type 0 where
  pub site : Site
  pub name : List ℕ
  pub number : Option ℤ

abbrev pub same_number : Option ℤ → Option ℤ → Bool
same_number None b = false
same_number (Some a) None = false
same_number (Some a) (Some b) = int_eq a b

abbrev pub clash_with : Placed → Placed → Bool
clash_with a b = bytes_eq a.name b.name || same_number a.number b.number

-- the first that has the name or the number of one before it
abbrev pub repeated : List Placed → List Placed → Option Site
repeated before [] = None
repeated before (p ∷ ps) = if list_any (clash_with p) before then Some p.site else repeated (before ++ p ∷ []) ps

-- a name without a number
abbrev pub placed : Site → List ℕ → Placed
placed site name = record { site = site; name = name; number = None }

abbrev pub placed_at : Site → Components → List Placed
placed_at site type.no_components = []
placed_at site (type.component name t presence cs) = placed site name ∷ placed_at site cs

-- the names of components, those that COMPONENTS OF puts in at that word
abbrev pub component_names : Surroundings → WrittenComponents → List Placed
component_names around no_components = []
component_names around (component site name t presence cs) = placed site name ∷ component_names around cs
component_names around (components_from site t cs) =
    placed_at site (parts_of (denoted around t)) ++ component_names around cs

abbrev pub alternative_names : WrittenAlternatives → List Placed
alternative_names no_alternatives = []
alternative_names (alternative site name t others) = placed site name ∷ alternative_names others

abbrev pub named_place : WrittenNamed → Placed
named_place n = record { site = n.site; name = n.name; number = Some (number_of n.number) }

abbrev pub item_place : WrittenItem → Placed
item_place i = record { site = i.site; name = i.name; number = option_map number_of i.number }

abbrev pub duplicate_name : List Placed → Option TagFault
duplicate_name ps = option_map (λ site. DuplicateName site) (repeated [] ps)

abbrev pub duplicate_number : List Placed → Option TagFault
duplicate_number ps = option_map (λ site. DuplicateNumber site) (repeated [] ps)

-- the number of a named bit, which isn't negative
abbrev pub is_bit : ℤ → Bool
is_bit (pos n) = nat_le n greatest_bit
is_bit (negsuc n) = false

-- the first whose number isn't one that it may have
abbrev pub is_outside : (ℤ → Bool) → Option ℤ → Bool
is_outside may None = false
is_outside may (Some n) = not (may n)

abbrev pub first_outside : (ℤ → Bool) → List Placed → Option TagFault
first_outside may [] = None
first_outside may (p ∷ ps) =
    option_or (fault_where (is_outside may p.number) (NumberTooLarge p.site)) (first_outside may ps)

abbrev pub number_too_large : List Placed → Option TagFault
number_too_large ps = first_outside fits_128_bits ps

abbrev pub too_many : Site → Components → Option TagFault
too_many site cs = fault_where (nat_lt most_components (component_count cs)) (TooManyComponents site)

-- ---- a type, and what is in it

-- what it takes in, its names, and how many parts it has
abbrev pub list_fault : Surroundings → Site → WrittenBase → Option TagFault
list_fault around site (plain p) = None
list_fault around site (numbers ns) = duplicate_number (map named_place ns)
list_fault around site (named_bits bs) = duplicate_number (map named_place bs)
list_fault around site (enumerated items) = duplicate_number (map item_place items)
list_fault around site (structure k cs) =
    option_or (taken_fault around k (is_automatic_list around.tag_default cs) cs)
    (option_or (duplicate_name (component_names around cs)) (too_many site (denoted_components around cs)))
list_fault around site (choice others) =
    option_or (duplicate_name (alternative_names others)) (too_many site (denoted_alternatives around others))
list_fault around site (of_type k cons t) = None
list_fault around site (named_type at name) = None

abbrev pub number_fault : WrittenBase → Option TagFault
number_fault (plain p) = None
number_fault (numbers ns) = number_too_large (map named_place ns)
number_fault (named_bits bs) = first_outside is_bit (map named_place bs)
number_fault (enumerated items) = number_too_large (map item_place items)
number_fault (structure k cs) = None
number_fault (choice others) = None
number_fault (of_type k cons t) = None
number_fault (named_type at name) = None

-- A type that gets an automatic tag, or gets none. Which number that has doesn't matter for its nesting.
abbrev pub with_tag_there : Bool → AbstractType → AbstractType
with_tag_there true t = with_automatic_tag (automatic_tag 0) t
with_tag_there false t = t

-- What is wrong with the type itself, where it gets an automatic tag or none. `count` is the number of its types and of
-- those before it.
abbrev pub own_fault : Surroundings → Bool → ℕ → WrittenType → Option TagFault
own_fault around automatic count (type_node site tags base cons) =
    first_of (universal_tag tags
    ∷ implicit_choice (denoted_base around base) tags
    ∷ tag_too_large tags
    ∷ list_fault around site base
    ∷ fault_where
    (nat_lt deepest_nesting (nesting (with_tag_there automatic (denoted around (type_node site tags base cons)))))
    (TooDeep site)
    ∷ fault_where (nat_lt most_nodes count) (SchemaTooLarge site)
    ∷ number_fault base ∷ [])

-- How many types COMPONENTS OF puts in: those inside its type, not that type itself, and none of a type that may not be
-- taken in.
abbrev pub nodes_put_in : Surroundings → Collection → Bool → WrittenType → ℕ
nodes_put_in around kind automatic t =
    if takes_wrongly around kind automatic t then 0 else nodes_within (denoted around t)

abbrev mutual
  -- The first fault in a type. `before` is the number of types before it, `count` of those with it and before it.
  -- Components and alternatives get automatic tags or none; no other types get any.
  pub fault_in : Surroundings → Bool → ℕ → ℕ → WrittenType → Option TagFault
  fault_in around automatic before count (type_node site tags base cons) =
      option_or (fault_in_parts around before base) (own_fault around automatic count (type_node site tags base cons))

  pub fault_in_parts : Surroundings → ℕ → WrittenBase → Option TagFault
  fault_in_parts around before (plain p) = None
  fault_in_parts around before (numbers ns) = None
  fault_in_parts around before (named_bits bs) = None
  fault_in_parts around before (enumerated items) = None
  fault_in_parts around before (structure k cs) =
      fault_in_components k (is_automatic_list around.tag_default cs) around before cs
  fault_in_parts around before (choice others) =
      fault_in_alternatives (is_automatic_choice around.tag_default others) around before others
  fault_in_parts around before (of_type k cons t) = fault_in around false before (before + nodes (denoted around t)) t
  fault_in_parts around before (named_type site name) = None

  pub fault_in_components : Collection → Bool → Surroundings → ℕ → WrittenComponents → Option TagFault
  fault_in_components k automatic around before no_components = None
  fault_in_components k automatic around before (component site name t presence cs) =
      option_or (fault_in around automatic before (before + nodes (denoted around t)) t)
      (fault_in_components k automatic around (before + nodes (denoted around t)) cs)
  fault_in_components k automatic around before (components_from site t cs) =
      option_or (fault_in around false before (before + nodes_within (denoted around t)) t)
      (fault_in_components k automatic around (before + nodes_put_in around k automatic t) cs)

  pub fault_in_alternatives : Bool → Surroundings → ℕ → WrittenAlternatives → Option TagFault
  fault_in_alternatives automatic around before no_alternatives = None
  fault_in_alternatives automatic around before (alternative site name t others) =
      option_or (fault_in around automatic before (before + nodes (denoted around t)) t)
      (fault_in_alternatives automatic around (before + nodes (denoted around t)) others)

-- the first fault in the type of a definition; `before` is the number of types in the definitions before it
abbrev pub first_fault : Surroundings → ℕ → WrittenType → Option TagFault
first_fault around before t = fault_in around false before (before + nodes (denoted around t)) t
