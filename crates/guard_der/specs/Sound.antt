-- Types that have encodings within this profile's limits, and whose encodings tell their values.
use Rattle.std.specs.Prelude.{Bool, true, false, ◌&&◌, nat_le, Option, Some, None}
use Rattle.std.specs.Option.{is_some}
use Rattle.guard_model.specs.AbstractType as type
use Rattle.guard_model.specs.AbstractType.{AbstractType, AbstractKind, AbstractPresence, Components, Constraint, Constraints, Element, Parts, type_of, no_components, component}
use Rattle.guard_model.specs.Counts.{component_count}
use Rattle.guard_model.specs.SameType.{same_base}
use Rattle.guard_tagcheck.specs.Distinct.{AbstractClash}
use Rattle.guard_tagcheck.specs.Search.{first_clash}
use Rattle.guard_tagcheck.specs.Limits.{nesting, is_tagged, are_low}
use Rattle.guard_der.specs.ProperConstraints.{may_stand_in, takes_size, is_there_and}
use Rattle.guard_model.specs.Kinds.{kind_of, is_integer, type_of_size, is_string, element_of, has_parts, part_of}
use Rattle.guard_model.specs.Limits.{most_components, deepest_nesting}

-- A default is a value of its component's type. None may be left pending.
abbrev pub is_proper_presence : AbstractType → AbstractPresence → Bool
is_proper_presence t type.mandatory = true
is_proper_presence t type.optional = true
is_proper_presence t type.pending = false
is_proper_presence t (type.default d) = may_stand_in t d

abbrev pub none_clash : Option AbstractClash → Bool
none_clash None = true
none_clash (Some clash) = false

-- All tags that must differ do: this is so exactly where `Distinct` holds (`laws::law_distinct_tags`), of any type,
-- also of one in a constraint.
abbrev pub has_distinct_tags : AbstractType → Bool
has_distinct_tags t = none_clash (first_clash t)

abbrev mutual
  -- ---- types

  pub is_proper : AbstractType → Bool
  is_proper (type_of tags kind cons) =
      (is_tagged tags kind && are_low tags && are_proper_constraints cons (type_of tags kind cons))
      && is_proper_kind kind

  pub is_proper_kind : AbstractKind → Bool
  is_proper_kind (type.sequence cs) = nat_le (component_count cs) most_components && are_proper cs
  is_proper_kind (type.set cs) = nat_le (component_count cs) most_components && are_proper cs
  is_proper_kind (type.choice cs) = nat_le (component_count cs) most_components && are_proper cs
  is_proper_kind (type.sequence_of t) = is_proper t
  is_proper_kind (type.set_of t) = is_proper t
  is_proper_kind type.boolean = true
  is_proper_kind (type.integer ns) = true
  is_proper_kind (type.bit_string names) = true
  is_proper_kind type.octet_string = true
  is_proper_kind type.null = true
  is_proper_kind type.object_identifier = true
  is_proper_kind (type.enumerated ns) = true
  is_proper_kind (type.characters k) = true

  pub are_proper : Components → Bool
  are_proper no_components = true
  are_proper (component name t presence rest) = is_proper t && is_proper_presence t presence && are_proper rest

  -- ---- constraints on a type, with the clause of X.680 for each element

  pub are_proper_constraints : Constraints → AbstractType → Bool
  are_proper_constraints type.no_constraints t = true
  are_proper_constraints (type.constraint c cs) t = is_proper_constraint c t && are_proper_constraints cs t

  pub is_proper_constraint : Constraint → AbstractType → Bool
  is_proper_constraint (type.at site e) t = is_proper_element e t

  pub is_proper_element : Element → AbstractType → Bool
  -- 51.2: a value of the type
  is_proper_element (type.single_value v) t = may_stand_in t v
  -- 51.3: a type of the same base that is sound, as below
  is_proper_element (type.contained_subtype u) t =
      same_base u t && (is_proper u && has_distinct_tags u && nat_le (nesting u) deepest_nesting)
  -- 51.4
  is_proper_element (type.range low high) t = is_integer (kind_of t)
  -- 51.5: a constraint on INTEGER; none on named bits
  is_proper_element (type.size c) t = takes_size (kind_of t) && is_proper_constraint c type_of_size
  -- 51.7
  is_proper_element (type.permitted_alphabet ranges) t = is_string (kind_of t)
  -- 51.8.4: a constraint on the elements' type
  is_proper_element (type.with_component c) t = is_there_and (is_proper_constraint c) (element_of (kind_of t))
  -- 51.8.5
  is_proper_element (type.with_components partial ps) t = has_parts (kind_of t) && are_proper_parts ps t
  -- 50: sets of values of the same type
  is_proper_element (type.union cs) t = are_proper_constraints cs t
  is_proper_element (type.intersection cs) t = are_proper_constraints cs t
  is_proper_element (type.except c d) t = is_proper_constraint c t && is_proper_constraint d t
  is_proper_element (type.all_except c) t = is_proper_constraint c t

  -- 51.8.6: the component or alternative exists, and what is said of it is a constraint on its type
  pub are_proper_parts : Parts → AbstractType → Bool
  are_proper_parts type.no_parts t = true
  are_proper_parts (type.part site i word ps) t = is_some (part_of i (kind_of t)) && are_proper_parts ps t
  are_proper_parts (type.part_within site i c word ps) t =
      is_there_and (is_proper_constraint c) (part_of i (kind_of t)) && are_proper_parts ps t

-- Tags are there, low and distinct; lists of components, nesting and defaults keep their limits; constraints apply.
abbrev pub is_sound : AbstractType → Bool
is_sound t = is_proper t && has_distinct_tags t && nat_le (nesting t) deepest_nesting
