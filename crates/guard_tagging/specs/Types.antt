-- The type that a written type denotes: its tags, its parts and their numbering (X.680 clauses 17 to 31). It has no
-- constraints of its own yet, and its defaults aren't known yet; a type that is referred to keeps what it has.
use Rattle.std.specs.Prelude.{ℕ, Bool, true, false, not, ◌&&◌, ◌||◌, List, [], ◌∷◌, map, Option, Some, None}
use Rattle.guard_model.specs.declared.tag.Class.TheVariants.{Universal}
use Rattle.guard_model.specs.declared.tag.Tag.{Tag}
use Rattle.guard_model.specs.declared.ty.CharKind.TheVariants as kind
use Rattle.guard_model.specs.AbstractType as type
use Rattle.guard_model.specs.AbstractType.{AbstractType, AbstractKind, AbstractPresence, Components, type_of}
use Rattle.guard_model.specs.Components.{components_in}
use Rattle.guard_syntax.specs.declared.tree.PlainType.{PlainType}
use Rattle.guard_syntax.specs.declared.tree.PlainType.TheVariants as plain_type
use Rattle.guard_syntax.specs.declared.tree.Collection.{Collection}
use Rattle.guard_syntax.specs.declared.tree.Collection.TheVariants as collection
use Rattle.guard_syntax.specs.declared.tree.TagDefault.{TagDefault}
use Rattle.guard_syntax.specs.declared.tree.TagDefault.TheVariants as by_default
use Rattle.guard_syntax.specs.Trees.{WrittenPresence, mandatory, optional, default, WrittenType, type_node, WrittenBase, plain, numbers, named_bits, enumerated, structure, choice, of_type, named_type, WrittenComponents, no_components, component, components_from, WrittenAlternatives, no_alternatives, alternative}
use Rattle.guard_tagging.specs.Tagging.{with_tags, with_automatic_tags}
use Rattle.guard_tagging.specs.Enumerations.{numbered, named_number}

-- what the name of a type means where a type is written: the type that its definition has, and whether that is a list
-- that is tagged automatically
pub record Meaning : Type 0 where
  pub ty : AbstractType
  pub is_automatic : Bool

-- the module in which a type is written: its tag default, EXPLICIT where none is written, and what names of types mean
-- in it, where they mean something
pub record Surroundings : Type 0 where
  pub tag_default : TagDefault
  pub meaning : List ℕ → Option Meaning

abbrev pub is_meant_automatic : Option Meaning → Bool
is_meant_automatic (Some m) = m.is_automatic
is_meant_automatic None = false

-- ---- universal tags (8.4); a CHOICE has none

abbrev pub universal_tag : ℕ → Tag
universal_tag n = record { class = Universal; number = n }

abbrev pub universal : ℕ → List Tag
universal n = universal_tag n ∷ []

-- What a name means. No type comes of a written type with a name that means nothing, and no fault either (`IsTagged` and
-- `IsFirstFault` ask for `IsKnown`), so what is said here of such a name is never used.
abbrev pub meant : Option Meaning → AbstractType
meant (Some m) = m.ty
meant None = type_of (universal 5) type.null type.no_constraints

abbrev pub plain_number : PlainType → ℕ
plain_number plain_type.Boolean = 1
plain_number plain_type.OctetString = 4
plain_number plain_type.Null = 5
plain_number plain_type.ObjectIdentifier = 6
plain_number plain_type.Utf8String = 12
plain_number plain_type.NumericString = 18
plain_number plain_type.PrintableString = 19
plain_number plain_type.Ia5String = 22
plain_number plain_type.VisibleString = 26

abbrev pub collection_number : Collection → ℕ
collection_number collection.Sequence = 16
collection_number collection.Set = 17

-- ---- kinds

abbrev pub plain_kind : PlainType → AbstractKind
plain_kind plain_type.Boolean = type.boolean
plain_kind plain_type.OctetString = type.octet_string
plain_kind plain_type.Null = type.null
plain_kind plain_type.ObjectIdentifier = type.object_identifier
plain_kind plain_type.Utf8String = type.characters kind.Utf8
plain_kind plain_type.NumericString = type.characters kind.Numeric
plain_kind plain_type.PrintableString = type.characters kind.Printable
plain_kind plain_type.Ia5String = type.characters kind.Ia5
plain_kind plain_type.VisibleString = type.characters kind.Visible

abbrev pub structure_kind : Collection → Components → AbstractKind
structure_kind collection.Sequence cs = type.sequence cs
structure_kind collection.Set cs = type.set cs

abbrev pub of_kind : Collection → AbstractType → AbstractKind
of_kind collection.Sequence t = type.sequence_of t
of_kind collection.Set t = type.set_of t

abbrev pub presence_of : WrittenPresence → AbstractPresence
presence_of mandatory = type.mandatory
presence_of optional = type.optional
presence_of (default v) = type.pending

-- ---- lists that are tagged automatically: under AUTOMATIC TAGS, where no component's type begins with a tag as it is
-- written. The type after COMPONENTS OF is none of them (clauses 25, 27 and 29).

abbrev pub begins_with_tag : WrittenType → Bool
begins_with_tag (type_node site [] base cons) = false
begins_with_tag (type_node site (w ∷ ws) base cons) = true

abbrev pub has_tagged_component : WrittenComponents → Bool
has_tagged_component no_components = false
has_tagged_component (component site name t presence cs) = begins_with_tag t || has_tagged_component cs
has_tagged_component (components_from site t cs) = has_tagged_component cs

abbrev pub has_tagged_alternative : WrittenAlternatives → Bool
has_tagged_alternative no_alternatives = false
has_tagged_alternative (alternative site name t others) = begins_with_tag t || has_tagged_alternative others

abbrev pub is_automatic_default : TagDefault → Bool
is_automatic_default by_default.Automatic = true
is_automatic_default by_default.Explicit = false
is_automatic_default by_default.Implicit = false

abbrev pub is_automatic_list : TagDefault → WrittenComponents → Bool
is_automatic_list tag_default cs = is_automatic_default tag_default && not (has_tagged_component cs)

abbrev pub is_automatic_choice : TagDefault → WrittenAlternatives → Bool
is_automatic_choice tag_default others = is_automatic_default tag_default && not (has_tagged_alternative others)

-- whether the list of components that a written type is, or names, is tagged automatically, where it is or names one
abbrev pub is_automatic_base : Surroundings → WrittenBase → Bool
is_automatic_base around (plain p) = false
is_automatic_base around (numbers ns) = false
is_automatic_base around (named_bits bs) = false
is_automatic_base around (enumerated items) = false
is_automatic_base around (of_type k cons t) = false
is_automatic_base around (structure kind cs) = is_automatic_list around.tag_default cs
is_automatic_base around (choice others) = is_automatic_choice around.tag_default others
is_automatic_base around (named_type site name) = is_meant_automatic (around.meaning name)

abbrev pub is_automatic : Surroundings → WrittenType → Bool
is_automatic around (type_node site tags base cons) = is_automatic_base around base

abbrev pub tagged_where : Bool → Components → Components
tagged_where true cs = with_automatic_tags 0 cs
tagged_where false cs = cs

-- ---- types

abbrev pub parts_of : AbstractType → Components
parts_of (type_of tags kind cons) = components_in kind

abbrev pub join : Components → Components → Components
join type.no_components cs = cs
join (type.component name t presence others) cs = type.component name t presence (join others cs)

abbrev mutual
  -- a type with the tags that are written before it (31.2)
  pub denoted : Surroundings → WrittenType → AbstractType
  denoted around (type_node site tags base cons) = with_tags around.tag_default tags (denoted_base around base)

  -- Types that are written with words alone (18, 23, 24, 32, 41); INTEGER with its named numbers (19), BIT STRING with
  -- its named bits (22) and ENUMERATED with its items (20); SEQUENCE and SET with their components (25, 27), CHOICE
  -- with its alternatives (29), SEQUENCE OF and SET OF (26, 28); a name, which is the type that it is assigned (14).
  pub denoted_base : Surroundings → WrittenBase → AbstractType
  denoted_base around (plain p) = type_of (universal (plain_number p)) (plain_kind p) type.no_constraints
  denoted_base around (numbers ns) = type_of (universal 2) (type.integer (map named_number ns)) type.no_constraints
  denoted_base around (named_bits bs) =
      type_of (universal 3) (type.bit_string (map named_number bs)) type.no_constraints
  denoted_base around (enumerated items) = type_of (universal 10) (type.enumerated (numbered items)) type.no_constraints
  denoted_base around (structure k cs) =
      type_of (universal (collection_number k))
      (structure_kind k (tagged_where (is_automatic_list around.tag_default cs) (denoted_components around cs)))
      type.no_constraints
  denoted_base around (choice others) =
      type_of []
      (type.choice (tagged_where (is_automatic_choice around.tag_default others) (denoted_alternatives around others)))
      type.no_constraints
  denoted_base around (of_type k cons t) =
      type_of (universal (collection_number k)) (of_kind k (denoted around t)) type.no_constraints
  denoted_base around (named_type site name) = meant (around.meaning name)

  -- in their written order; COMPONENTS OF puts in the components of the list that its type has (25.4, 27.2)
  pub denoted_components : Surroundings → WrittenComponents → Components
  denoted_components around no_components = type.no_components
  denoted_components around (component site name t presence cs) =
      type.component name (denoted around t) (presence_of presence) (denoted_components around cs)
  denoted_components around (components_from site t cs) =
      join (parts_of (denoted around t)) (denoted_components around cs)

  -- in their written order; each must be there where it is chosen (29)
  pub denoted_alternatives : Surroundings → WrittenAlternatives → Components
  denoted_alternatives around no_alternatives = type.no_components
  denoted_alternatives around (alternative site name t others) =
      type.component name (denoted around t) type.mandatory (denoted_alternatives around others)
