-- What the code knows of a bare type before it is finished: the written type has it by its tags, so it is of the kind
-- that is written, and its parts are those that are written; tags tell these apart, and no limit is broken.
use Rattle.std.specs.Prelude.{◌≡◌, ℕ, Bool, true, ◌&&◌, List, [], ◌∷◌, ◌++◌, Some, None, IsTrue, nat_le, ◌⊎◌}
use Rattle.guard_model.specs.declared.tag.Tag.{Tag}
use Rattle.guard_model.specs.AbstractType as type
use Rattle.guard_model.specs.AbstractType.{AbstractType, AbstractKind, Components, Constraints, type_of}
use Rattle.guard_model.specs.Counts.{component_count}
use Rattle.guard_model.specs.Kinds.{kind_of}
use Rattle.guard_model.specs.Limits.{most_components, deepest_nesting}
use Rattle.guard_model.specs.TypeView.{OneComponent}
use Rattle.guard_tagcheck.specs.Limits.{nesting, is_tagged, are_low}
use Rattle.guard_der.specs.ProperConstraints.{takes_size}
use Rattle.guard_der.specs.Sound.{is_sound, is_proper_kind, has_distinct_tags}
use Rattle.guard_syntax.specs.declared.tree.Collection.{Collection}
use Rattle.guard_syntax.specs.Trees.{WrittenType, type_node, WrittenBase, plain, numbers, named_bits, enumerated}
use Rattle.guard_syntax.specs.Trees.{structure, choice, of_type, named_type, WrittenComponents, no_components}
use Rattle.guard_syntax.specs.Trees.{component}
use Rattle.guard_syntax.specs.Trees.{components_from, WrittenAlternatives, no_alternatives, alternative}
use Rattle.guard_syntax.specs.Trees.{WrittenComponentForm, named, components_of_type}
use Rattle.guard_tagging.specs.Types.{structure_kind, of_kind, presence_of, parts_of, join}
use Rattle.guard_constraints.specs.Visible.{Visible}
use Rattle.guard_schema.specs.LongValues.{first_long}
use Rattle.guard_schema.specs.inside.Room.{HasRoom}

-- ---- a type by itself

-- its own tags
abbrev pub tags_on : AbstractType → List Tag
tags_on (type_of tags kind cons) = tags

-- its own constraints
abbrev pub constraints_on : AbstractType → Constraints
constraints_on (type_of tags kind cons) = cons

-- its tags are there, and low
abbrev pub has_tags : AbstractType → Bool
has_tags (type_of tags kind cons) = is_tagged tags kind && are_low tags

-- tags tell its parts apart, and it isn't nested too deep
abbrev pub is_shaped : AbstractType → Bool
is_shaped t = has_distinct_tags t && nat_le (nesting t) deepest_nesting

abbrev pub are_shaped : Components → Bool
are_shaped type.no_components = true
are_shaped (type.component name t presence cs) = is_shaped t && are_shaped cs

-- no constraints yet, on a kind that is as it should be
abbrev pub IsFresh : AbstractKind → Constraints → Type 0
IsFresh kind cons = (cons ≡ type.no_constraints) × IsTrue (is_proper_kind kind)

-- a list of components as one
abbrev pub listed : Components → List OneComponent
listed type.no_components = []
listed (type.component name t presence others) = record { name = name; ty = t; presence = presence } ∷ listed others

-- a list that begins with these
abbrev pub Begins : List OneComponent → Components → Type 0
Begins left bare = (after : List OneComponent) × (left ≡ listed bare ++ after)

-- ---- by what is written, where names mean this

module _ (names : Visible) where
  -- of a type that a name means
  abbrev pub IsOfName : List ℕ → AbstractKind → Constraints → Type 0
  IsOfName name kind cons = (u : AbstractType) × (names.types name ≡ Some u) × (kind ≡ kind_of u)
      × (cons ≡ constraints_on u)

  abbrev mutual
    pub IsMadeUp : WrittenType → AbstractType → Type 0
    IsMadeUp (type_node site tags base cs) t = IsTrue (has_tags t) × IsMadeUpBase base (kind_of t) (constraints_on t)

    pub IsMadeUpBase : WrittenBase → AbstractKind → Constraints → Type 0
    IsMadeUpBase (plain p) kind cons = IsFresh kind cons
    IsMadeUpBase (numbers ns) kind cons = IsFresh kind cons
    IsMadeUpBase (named_bits ns) kind cons = IsFresh kind cons
    IsMadeUpBase (enumerated items) kind cons = IsFresh kind cons
    IsMadeUpBase (structure k cs) kind cons =
        (cons ≡ type.no_constraints) × ((bare : Components) × (kind ≡ structure_kind k bare)
        × IsTrue (nat_le (component_count bare) most_components) × AreMadeUp cs bare)
    IsMadeUpBase (choice others) kind cons =
        (cons ≡ type.no_constraints) × ((bare : Components) × (kind ≡ type.choice bare)
        × IsTrue (nat_le (component_count bare) most_components) × AreMadeUpOthers others bare)
    IsMadeUpBase (of_type k c t) kind cons = (cons ≡ type.no_constraints)
        × ((bare : AbstractType) × (kind ≡ of_kind k bare) × IsMadeUp t bare)
    IsMadeUpBase (named_type site name) kind cons = IsOfName name kind cons

    pub AreMadeUp : WrittenComponents → Components → Type 0
    AreMadeUp no_components bare = bare ≡ type.no_components
    AreMadeUp (component site name t presence cs) bare =
        (u : AbstractType) × (rest : Components) × (bare ≡ type.component name u (presence_of presence) rest)
        × IsMadeUp t u × AreMadeUp cs rest
    AreMadeUp (components_from site t cs) bare =
        (taken : Components) × (rest : Components) × (bare ≡ join taken rest) × IsPutIn t taken × AreMadeUp cs rest

    pub IsPutIn : WrittenType → Components → Type 0
    IsPutIn (type_node site tags base cs) taken = IsPutInBase base taken

    pub IsPutInBase : WrittenBase → Components → Type 0
    IsPutInBase (plain p) taken = ⊥
    IsPutInBase (numbers ns) taken = ⊥
    IsPutInBase (named_bits ns) taken = ⊥
    IsPutInBase (enumerated items) taken = ⊥
    IsPutInBase (structure k cs) taken = AreMadeUp cs taken
    IsPutInBase (choice others) taken = ⊥
    IsPutInBase (of_type k c t) taken = ⊥
    IsPutInBase (named_type site name) taken = (t : AbstractType) × (names.types name ≡ Some t) × (taken ≡ parts_of t)

    pub AreMadeUpOthers : WrittenAlternatives → Components → Type 0
    AreMadeUpOthers no_alternatives bare = bare ≡ type.no_components
    AreMadeUpOthers (alternative site name t others) bare =
        (u : AbstractType) × (rest : Components) × (bare ≡ type.component name u type.mandatory rest) × IsMadeUp t u
        × AreMadeUpOthers others rest

  -- ---- a type, its kind and its parts, ready to be finished

  abbrev pub IsReady : WrittenType → AbstractType → Type 0
  IsReady w t = IsMadeUp w t × IsTrue (is_shaped t)

  abbrev pub IsReadyBase : WrittenBase → AbstractType → Type 0
  IsReadyBase base t = (IsTrue (has_tags t) × IsMadeUpBase base (kind_of t) (constraints_on t)) × IsTrue (is_shaped t)

  -- of some type
  abbrev pub IsReadyKind : WrittenBase → AbstractKind → Type 0
  IsReadyKind base kind = (t : AbstractType) × (kind ≡ kind_of t) × IsReadyBase base t

  abbrev pub AreReady : WrittenComponents → Components → Type 0
  AreReady cs bare = AreMadeUp cs bare × IsTrue (are_shaped bare)

  abbrev pub OthersAreReady : WrittenAlternatives → Components → Type 0
  OthersAreReady others bare = AreMadeUpOthers others bare × IsTrue (are_shaped bare)

  abbrev pub IsReadyStructure : WrittenComponents → AbstractKind → Type 0
  IsReadyStructure cs kind = (k : Collection) × (bare : Components) × (kind ≡ structure_kind k bare) × AreReady cs bare

  abbrev pub IsReadyChoice : WrittenAlternatives → AbstractKind → Type 0
  IsReadyChoice others kind = (bare : Components) × (kind ≡ type.choice bare) × OthersAreReady others bare

  abbrev pub IsReadyOf : WrittenType → AbstractKind → Type 0
  IsReadyOf w kind = (k : Collection) × (bare : AbstractType) × (kind ≡ of_kind k bare) × IsReady w bare

  -- ---- the first of those that are left

  abbrev pub AreNext : WrittenComponents → List OneComponent → Type 0
  AreNext cs left = (bare : Components) × AreReady cs bare × Begins left bare

  abbrev pub OthersAreNext : WrittenAlternatives → List OneComponent → Type 0
  OthersAreNext others left = (bare : Components) × OthersAreReady others bare × Begins left bare

  abbrev pub IsNext : WrittenType → List OneComponent → Type 0
  IsNext w left = (c : OneComponent) × (after : List OneComponent) × (left ≡ c ∷ after) × IsReady w c.ty

  abbrev pub ArePutInNext : WrittenBase → List OneComponent → Type 0
  ArePutInNext base left = (taken : Components) × (IsPutInBase base taken × IsTrue (are_shaped taken)) × Begins left
      taken

  abbrev pub IsEntryNext : WrittenComponentForm → List OneComponent → Type 0
  IsEntryNext (named name t presence) left = IsNext t left
  IsEntryNext (components_of_type t) left = (taken : Components) × (IsPutIn t taken × IsTrue (are_shaped taken))
      × Begins left taken

-- ---- with its parts finished, before its constraints

-- it is sound, and has no constraints
abbrev pub IsUnconstrained : AbstractType → Type 0
IsUnconstrained t = IsTrue (is_sound t) × (constraints_on t ≡ type.no_constraints)

module _ (names : Visible) where
  -- of a type that a name means, whose own constraints have no long value under its tags
  abbrev pub IsAsMeant : List ℕ → AbstractType → Type 0
  IsAsMeant name t = (u : AbstractType) × (names.types name ≡ Some u) × (kind_of t ≡ kind_of u)
      × (constraints_on t ≡ constraints_on u) × (first_long u ≡ None)

  -- these tags are those of the type that a name means, or leave room for each value of its constraints
  abbrev pub IsKnownShort : List ℕ → List Tag → Type 0
  IsKnownShort name tags = (u : AbstractType) → names.types name ≡ Some u → (tags ≡ tags_on u) ⊎ HasRoom tags u

  -- The type is sound, but for long values in the constraints of a type that is referred to; others have none yet, and an
  -- OF type can have SIZE.
  abbrev pub IsPart : WrittenBase → AbstractType → Type 0
  IsPart (plain p) t = IsUnconstrained t
  IsPart (numbers ns) t = IsUnconstrained t
  IsPart (named_bits ns) t = IsUnconstrained t
  IsPart (enumerated items) t = IsUnconstrained t
  IsPart (structure k cs) t = IsUnconstrained t
  IsPart (choice others) t = IsUnconstrained t
  IsPart (of_type k c u) t = IsUnconstrained t × IsTrue (takes_size (kind_of t))
  IsPart (named_type site name) t = (first_long t ≡ None → IsTrue (is_sound t)) × IsAsMeant name t

  abbrev pub IsWrittenPart : WrittenType → AbstractType → Type 0
  IsWrittenPart (type_node site tags base cs) t = IsPart base t
