-- Sound types are within the limits, and their contained types keep the base.
use Rattle.std.proofs.Common.{refl, ◌&&◌, List, Option, Some, None, option_map, IsTrue}
use Rattle.std.specs.Prelude.{nat_le}
use Rattle.std.specs.Option.{is_some}
use Rattle.std.proofs.lemmas.Bool.{and_parts, and_from}
use Rattle.guard_model.specs.declared.tag.Tag.{Tag}
use Rattle.guard_model.specs.AbstractType as type
use Rattle.guard_model.specs.AbstractType.{AbstractType, AbstractKind, Components, Constraint, Constraints, Parts, type_of, no_components, component, at, no_constraints, constraint}
use Rattle.guard_model.specs.Counts.{component_count}
use Rattle.guard_model.specs.Components.{components_in, component_at}
use Rattle.guard_model.specs.SameBase.{HasSameBase}
use Rattle.guard_model.specs.SameType.{same_base}
use Rattle.guard_model.specs.TypeView.{OneComponent}
use Rattle.guard_model.proofs.SameTypes.{same_base-Decides}
use Rattle.guard_tagcheck.specs.Search.{first_clash}
use Rattle.guard_tagcheck.specs.Limits.{nesting, is_tagged, are_low, has_few_components, every_part, every_component, keeps_limits, is_within_limits}
use Rattle.guard_tagcheck.specs.Limits as limits
use Rattle.guard_der.specs.Sound.{is_sound, is_proper, is_proper_kind, is_proper_presence, are_proper, are_proper_constraints, is_proper_constraint, are_proper_parts, none_clash}
use Rattle.guard_der.specs.ProperConstraints.{is_there_and, takes_size}
use Rattle.guard_model.specs.Kinds.{type_of_size, has_parts, part_of, kind_of}
use Rattle.guard_eval.proofs.Bases.{KeepsBase, PartsKeepBase, ComponentsKeepBase, AllKeepBase, ConstraintKeepsBase, ListedKeepBase}
use Rattle.guard_eval.specs.Presence.{kind_found}

same_from : (u t : AbstractType) → IsTrue (same_base u t) → HasSameBase u t
same_from u t h = (same_base-Decides u t).0 h

-- a constraint that is proper on each type keeps the base on the one that is found
kept_where_found : (c : Constraint) (kind : AbstractKind) (found : Option OneComponent) → ((u : AbstractType) → IsTrue (is_proper_constraint c u) → ConstraintKeepsBase c (kind_of u))
    → IsTrue (is_there_and (is_proper_constraint c) (option_map (λ (d : OneComponent). d.ty) found)) → ConstraintKeepsBase c (kind_found kind found)
kept_where_found c kind None keeps h = absurd cc
kept_where_found c kind (Some d) keeps h = keeps d.ty h

-- the parts of the tests of one type
record Formed (tags : List Tag) (kind : AbstractKind) (cons : Constraints) : Type 0 where
  tagged : IsTrue (is_tagged tags kind)
  apply : IsTrue (are_proper_constraints cons (type_of tags kind cons))
  inside : IsTrue (is_proper_kind kind)

formed : (tags : List Tag) (kind : AbstractKind) (cons : Constraints) → IsTrue (is_proper (type_of tags kind cons)) → Formed tags kind cons
formed tags kind cons h =
    let a = and_parts (is_tagged tags kind && are_low tags && are_proper_constraints cons (type_of tags kind cons)) (is_proper_kind kind) h in
    let b = and_parts (is_tagged tags kind && are_low tags) (are_proper_constraints cons (type_of tags kind cons)) a.0 in
    record { tagged = (and_parts (is_tagged tags kind) (are_low tags) b.0).0; apply = b.1; inside = a.1 }

few : (cs : Components) → IsTrue (nat_le (component_count cs) 64 && are_proper cs) → IsTrue (nat_le (component_count cs) 64) × IsTrue (are_proper cs)
few cs h = and_parts (nat_le (component_count cs) 64) (are_proper cs) h

few_in : (tags : List Tag) (kind : AbstractKind) → IsTrue (is_proper_kind kind) → IsTrue (has_few_components tags kind)
few_in tags (type.sequence cs) h = (few cs h).0
few_in tags (type.set cs) h = (few cs h).0
few_in tags (type.choice cs) h = (few cs h).0
few_in tags _ h = refl

mutual
  proper_keeps : (t : AbstractType) → IsTrue (is_proper t) → IsTrue (keeps_limits t) × KeepsBase t
  proper_keeps (type_of tags kind cons) h =
      let k = formed tags kind cons h in
      let p = kind_keeps kind k.inside in (
        and_from (is_tagged tags kind && has_few_components tags kind) (every_part limits.is_formed kind) (and_from (is_tagged tags kind) (has_few_components tags kind) k.tagged (few_in tags kind k.inside)) p.0,
        (constraints_keep cons (type_of tags kind cons) k.apply, p.1),
      )

  kind_keeps : (kind : AbstractKind) → IsTrue (is_proper_kind kind) → IsTrue (every_part limits.is_formed kind) × PartsKeepBase kind
  kind_keeps (type.sequence cs) h = components_keep cs (few cs h).1
  kind_keeps (type.set cs) h = components_keep cs (few cs h).1
  kind_keeps (type.choice cs) h = components_keep cs (few cs h).1
  kind_keeps (type.sequence_of t) h = proper_keeps t h
  kind_keeps (type.set_of t) h = proper_keeps t h
  kind_keeps _ h = (refl, tt)

  components_keep : (cs : Components) → IsTrue (are_proper cs) → IsTrue (every_component limits.is_formed cs) × ComponentsKeepBase cs
  components_keep no_components h = (refl, tt)
  components_keep (component name t presence cs) h =
      let a = and_parts (is_proper t && is_proper_presence t presence) (are_proper cs) h in
      let one = proper_keeps t (and_parts (is_proper t) (is_proper_presence t presence) a.0).0 in
      let others = components_keep cs a.1 in
      (and_from (keeps_limits t) (every_component limits.is_formed cs) one.0 others.0, (one.1, others.1))

  constraints_keep : (cs : Constraints) (t : AbstractType) → IsTrue (are_proper_constraints cs t) → AllKeepBase cs (kind_of t)
  constraints_keep no_constraints t h = tt
  constraints_keep (constraint c cs) t h =
      let a = and_parts (is_proper_constraint c t) (are_proper_constraints cs t) h in
      (constraint_keeps c t a.0, constraints_keep cs t a.1)

  constraint_keeps : (c : Constraint) (t : AbstractType) → IsTrue (is_proper_constraint c t) → ConstraintKeepsBase c (kind_of t)
  constraint_keeps (at site (type.single_value v)) t h = tt
  constraint_keeps (at site (type.contained_subtype u)) (type_of tags kind cons) h =
      let a = and_parts (same_base u (type_of tags kind cons)) (is_sound u) h in
      let b = and_parts (is_proper u && none_clash (first_clash u)) (nat_le (nesting u) 32) a.1 in
      (same_from u (type_of tags kind cons) a.0, (proper_keeps u (and_parts (is_proper u) (none_clash (first_clash u)) b.0).0).1)
  constraint_keeps (at site (type.range low high)) t h = tt
  constraint_keeps (at site (type.size c)) (type_of tags kind cons) h =
      let a = and_parts (takes_size kind) (is_proper_constraint c type_of_size) h in
      (a.0, constraint_keeps c type_of_size a.1)
  constraint_keeps (at site (type.permitted_alphabet ranges)) t h = tt
  constraint_keeps (at site (type.with_component c)) (type_of tags (type.sequence_of u) cons) h = constraint_keeps c u h
  constraint_keeps (at site (type.with_component c)) (type_of tags (type.set_of u) cons) h = constraint_keeps c u h
  constraint_keeps (at site (type.with_component c)) (type_of tags _ cons) h = absurd cc
  constraint_keeps (at site (type.with_components partial ps)) (type_of tags kind cons) h = parts_keep ps (type_of tags kind cons) (and_parts (has_parts kind) (are_proper_parts ps (type_of tags kind cons)) h).1
  constraint_keeps (at site (type.union cs)) t h = constraints_keep cs t h
  constraint_keeps (at site (type.intersection cs)) t h = constraints_keep cs t h
  constraint_keeps (at site (type.except c d)) t h =
      let a = and_parts (is_proper_constraint c t) (is_proper_constraint d t) h in
      (constraint_keeps c t a.0, constraint_keeps d t a.1)
  constraint_keeps (at site (type.all_except c)) t h = constraint_keeps c t h

  parts_keep : (ps : Parts) (t : AbstractType) → IsTrue (are_proper_parts ps t) → ListedKeepBase ps (kind_of t)
  parts_keep type.no_parts t h = tt
  parts_keep (type.part site i word ps) (type_of tags kind cons) h =
      parts_keep ps (type_of tags kind cons) (and_parts (is_some (part_of i kind)) (are_proper_parts ps (type_of tags kind cons)) h).1
  parts_keep (type.part_within site i c word ps) (type_of tags kind cons) h =
      let a = and_parts (is_there_and (is_proper_constraint c) (part_of i kind)) (are_proper_parts ps (type_of tags kind cons)) h in
      (kept_where_found c kind (component_at i (components_in kind)) (λ u e. constraint_keeps c u e) a.0, parts_keep ps (type_of tags kind cons) a.1)

sound_parts : (t : AbstractType) → IsTrue (is_sound t) → IsTrue (is_proper t) × IsTrue (nat_le (nesting t) 32)
sound_parts t h =
    let a = and_parts (is_proper t && none_clash (first_clash t)) (nat_le (nesting t) 32) h in
    ((and_parts (is_proper t) (none_clash (first_clash t)) a.0).0, a.1)

-- of a constraint that a type may have
pub proper_keeps_base : (c : Constraint) (t : AbstractType) → IsTrue (is_proper_constraint c t) → ConstraintKeepsBase c (kind_of t)
proper_keeps_base c t h = constraint_keeps c t h

pub proper_type_keeps_base : (t : AbstractType) → IsTrue (is_proper t) → KeepsBase t
proper_type_keeps_base t h = (proper_keeps t h).1

pub sound_keeps_base : (t : AbstractType) → IsTrue (is_sound t) → KeepsBase t
sound_keeps_base t h = (proper_keeps t (sound_parts t h).0).1

pub sound_within_limits : (t : AbstractType) → IsTrue (is_sound t) → IsTrue (is_within_limits t)
sound_within_limits t h =
    let k = sound_parts t h in
    and_from (keeps_limits t) (nat_le (nesting t) 32) (proper_keeps t k.0).0 k.1
