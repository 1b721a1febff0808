-- What is asked of a component is met where what is asked of the whole is.
use Rattle.std.proofs.Common.{◌≡◌, ℕ, zero, suc, Bool, true, false, cond, not, ◌&&◌, List, [], ◌∷◌, ◌++◌, Some, refl, sym, ap, ◌∙◌, subst}
use Rattle.std.specs.Prelude.{nat_eq}
use Rattle.std.specs.Option.{is_none}
use Rattle.std.specs.List.{list_all}
use Rattle.std.proofs.lemmas.Bool.{and_parts}
use Rattle.std.proofs.lemmas.Bool.Decides.{Decides-eqb}
use Rattle.std.proofs.lemmas.Option.{same_Some}
use Rattle.guard_model.specs.AbstractType as type
use Rattle.guard_model.specs.AbstractType.{AbstractType, AbstractKind, Components, Constraint, Constraints, Element, Parts, type_of, no_components, component, at, no_constraints, constraint}
use Rattle.guard_model.specs.AbstractValue as value
use Rattle.guard_model.specs.AbstractValue.{AbstractValue, Fields}
use Rattle.guard_model.specs.Components.{components_in, component_at}
use Rattle.guard_der.specs.Fits.{fits_kind}
use Rattle.guard_eval.specs.Presence.{kind_at, field_at, if_there, is_there, is_placed, first_intruder}
use Rattle.guard_eval.specs.Member.{is_member, holds, holds_element, all_hold, parts_hold, parts_are_members, fields_are_members}
use Rattle.guard_eval.proofs.Applied.{contained_inside}
use Rattle.guard_tables.specs.Demands.{Demand, by_type, by_constraint, meets}
use Rattle.guard_policy.specs.Barren.{own_part, type_within, within, element_within, all_within, parts_within, demand_within, demands_within}

abbrev pub met : List Demand → AbstractValue → Bool
met asked w = list_all (λ d. meets d w) asked

met_both : (xs ys : List Demand) (w : AbstractValue) → met xs w ≡ true → met ys w ≡ true → met (xs ++ ys) w ≡ true
met_both [] ys w a b = b
met_both (d ∷ ds) ys w a b =
    let parts = and_parts (meets d w) (met ds w) a in
    ap (λ (x : Bool). x && met (ds ++ ys) w) parts.0 ∙ met_both ds ys w parts.1 b

module _ (fs : Fields) (i : ℕ) (w : AbstractValue) where
  -- ---- the component's own type

  own_met : (cs : Components) (gs : Fields) (j : ℕ) → fields_are_members cs gs ≡ true → field_at j gs ≡ Some w → met (own_part (component_at j cs)) w ≡ true
  own_met no_components gs j h there = refl
  own_met (component name t presence cs) value.no_fields j h there = absurd cc
  own_met (component name t presence cs) (value.present v gs) zero h there =
      let member = (and_parts (is_member t v) (fields_are_members cs gs) h).0 in
      ap (λ (b : Bool). b && true) (ap (is_member t) (sym (same_Some _ _ there)) ∙ member)
  own_met (component name t presence cs) (value.absent gs) zero h there = absurd cc
  own_met (component name t presence cs) (value.present v gs) (suc j) h there = own_met cs gs j (and_parts (is_member t v) (fields_are_members cs gs) h).1 there
  own_met (component name t presence cs) (value.absent gs) (suc j) h there = own_met cs gs j h there

  module _ (there : field_at i fs ≡ Some w) where
    own_of : (kind : AbstractKind) → fits_kind kind (value.fields fs) ≡ true → parts_are_members kind (value.fields fs) ≡ true
        → met (own_part (component_at i (components_in kind))) w ≡ true
    own_of type.boolean f h = refl
    own_of (type.integer names) f h = refl
    own_of (type.bit_string names) f h = refl
    own_of type.octet_string f h = refl
    own_of type.null f h = refl
    own_of type.object_identifier f h = refl
    own_of (type.enumerated items) f h = refl
    own_of (type.characters k) f h = refl
    own_of (type.sequence cs) f h = own_met cs fs i h there
    own_of (type.set cs) f h = own_met cs fs i h there
    own_of (type.choice cs) f h = absurd cc
    own_of (type.sequence_of t) f h = refl
    own_of (type.set_of t) f h = refl

    part_met : (kind : AbstractKind) (j : ℕ) (c : Constraint) → if_there (holds c (kind_at j kind)) (field_at j fs) ≡ true
        → met (cond (nat_eq j i) (by_constraint (kind_at i kind) c ∷ []) []) w ≡ true
    part_met kind j c h =
        (elim (nat_eq j i) as (λ (b : Bool). nat_eq j i ≡ b → met (cond b (by_constraint (kind_at i kind) c ∷ []) []) w ≡ true) [
          | true ↦ λ same.
              let e : j ≡ i = (Decides-eqb j i).0 same in
              let here = subst (λ (k : ℕ). if_there (holds c (kind_at k kind)) (field_at k fs) ≡ true) e h in
              let holding : holds c (kind_at i kind) w ≡ true = ap (if_there (holds c (kind_at i kind))) (sym there) ∙ here in
              ap (λ (b : Bool). b && true) holding
          | false ↦ λ other. refl
        ]) refl

    parts_met : (partial : Bool) (kind : AbstractKind) (ps : Parts) → parts_hold ps partial kind (value.fields fs) ≡ true → met (parts_within i kind ps) w ≡ true
    parts_met partial kind type.no_parts h = refl
    parts_met partial kind (type.part site j word ps) h =
        parts_met partial kind ps (and_parts (is_placed partial (component_at j (components_in kind)) word (is_there j (value.fields fs))) (parts_hold ps partial kind (value.fields fs)) h).1
    parts_met partial kind (type.part_within site j c word ps) h =
        let placed = is_placed partial (component_at j (components_in kind)) word (is_there j (value.fields fs)) in
        let inner = if_there (holds c (kind_at j kind)) (field_at j fs) in
        let two = and_parts (placed && inner) (parts_hold ps partial kind (value.fields fs)) h in
        met_both (cond (nat_eq j i) (by_constraint (kind_at i kind) c ∷ []) []) (parts_within i kind ps) w
        (part_met kind j c (and_parts placed inner two.0).1) (parts_met partial kind ps two.1)

    mutual
      type_met : (t : AbstractType) → is_member t (value.fields fs) ≡ true → met (type_within i t) w ≡ true
      type_met (type_of tags kind cons) h =
          let v = value.fields fs in
          let one = and_parts (fits_kind kind v && all_hold cons kind v) (parts_are_members kind v) h in
          let two = and_parts (fits_kind kind v) (all_hold cons kind v) one.0 in
          met_both (own_part (component_at i (components_in kind))) (all_within i kind cons) w (own_of kind two.0 one.1) (all_met cons kind two.1)

      one_met : (c : Constraint) (kind : AbstractKind) → holds c kind (value.fields fs) ≡ true → met (within i kind c) w ≡ true
      one_met (at site e) kind h = element_met e kind h

      element_met : (e : Element) (kind : AbstractKind) → holds_element e kind (value.fields fs) ≡ true → met (element_within i kind e) w ≡ true
      element_met (type.single_value v) kind h = refl
      element_met (type.contained_subtype t) kind h = type_met t (contained_inside t kind (value.fields fs) h)
      element_met (type.range low high) kind h = refl
      element_met (type.size c) kind h = refl
      element_met (type.permitted_alphabet ranges) kind h = refl
      element_met (type.with_component c) kind h = refl
      element_met (type.with_components partial ps) kind h =
          parts_met partial kind ps (and_parts (parts_hold ps partial kind (value.fields fs)) (is_none (first_intruder partial kind ps (value.fields fs))) h).0
      element_met (type.union cs) kind h = refl
      element_met (type.intersection cs) kind h = all_met cs kind h
      element_met (type.except c d) kind h = one_met c kind (and_parts (holds c kind (value.fields fs)) (not (holds d kind (value.fields fs))) h).0
      element_met (type.all_except c) kind h = refl

      all_met : (cs : Constraints) (kind : AbstractKind) → all_hold cs kind (value.fields fs) ≡ true → met (all_within i kind cs) w ≡ true
      all_met no_constraints kind h = refl
      all_met (constraint c cs) kind h =
          let both = and_parts (holds c kind (value.fields fs)) (all_hold cs kind (value.fields fs)) h in
          met_both (within i kind c) (all_within i kind cs) w (one_met c kind both.0) (all_met cs kind both.1)

    demand_met : (d : Demand) → meets d (value.fields fs) ≡ true → met (demand_within i d) w ≡ true
    demand_met (by_type t) h = type_met t h
    demand_met (by_constraint kind c) h = one_met c kind h

    pub demands_met : (asked : List Demand) → met asked (value.fields fs) ≡ true → met (demands_within i asked) w ≡ true
    demands_met [] h = refl
    demands_met (d ∷ ds) h =
        let both = and_parts (meets d (value.fields fs)) (met ds (value.fields fs)) h in
        met_both (demand_within i d) (demands_within i ds) w (demand_met d both.0) (demands_met ds both.1)
