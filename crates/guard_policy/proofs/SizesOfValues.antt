-- A value has one of the sizes that its constraints may have.
use Rattle.std.proofs.Common.{◌≡◌, ℕ, ℤ, Bool, true, false, not, ◌&&◌, ◌||◌, List, [], ◌∷◌, Some, refl, sym, ap, ◌∙◌}
use Rattle.std.specs.Prelude.{pos, ◌≤ℤ◌}
use Rattle.std.specs.List.{list_all}
use Rattle.std.proofs.lemmas.Bool.{and_parts}
use Rattle.guard_model.specs.AbstractType as type
use Rattle.guard_model.specs.AbstractType.{AbstractType, AbstractKind, Constraint, Constraints, Element, type_of, at, no_constraints, constraint}
use Rattle.guard_model.specs.AbstractValue as value
use Rattle.guard_model.specs.AbstractValue.{AbstractValue}
use Rattle.guard_model.specs.Limits.{fits_128_bits}
use Rattle.guard_der.specs.Fits.{fits_kind}
use Rattle.guard_eval.specs.Elements.{size_of, some_passes}
use Rattle.guard_eval.specs.Member.{is_member, holds, holds_element, all_hold, some_hold, parts_are_members}
use Rattle.guard_eval.proofs.Applied.{contained_inside, size_inside}
use Rattle.guard_tables.specs.Demands.{Demand, by_type, by_constraint, meets}
use Rattle.guard_policy.specs.Barren.{starts, element_starts, type_starts, all_starts, demand_starts, starts_of, may_have_size, element_may_have_size, type_may_have_size, all_may_have_size, some_may_have_size, demand_may_have_size}
use Rattle.guard_policy.proofs.Starts.{Reaches, reaches_both, same_holds}

both_hold : (a b c d : Bool) → (a ≡ true → c ≡ true) → (b ≡ true → d ≡ true) → (a && b) ≡ true → (c && d) ≡ true
both_hold true b c d f g e = ap (λ (x : Bool). x && d) (f refl) ∙ g e
both_hold false b c d f g e = absurd cc

one_holds : (a b c d : Bool) → (a ≡ true → c ≡ true) → (b ≡ true → d ≡ true) → (a || b) ≡ true → (c || d) ≡ true
one_holds true b c d f g e = ap (λ (x : Bool). x || d) (f refl)
one_holds false b true d f g e = refl
one_holds false b false d f g e = g e

-- ---- what a value's own size is

module _ (v : AbstractValue) (n : ℕ) (sized : size_of v ≡ Some n) where
  mutual
    size_of_one : (c : Constraint) (kind : AbstractKind) → holds c kind v ≡ true → may_have_size c (pos n) ≡ true
    size_of_one (at site e) kind h = size_of_element e kind h

    size_of_element : (e : Element) (kind : AbstractKind) → holds_element e kind v ≡ true → element_may_have_size e (pos n) ≡ true
    size_of_element (type.single_value w) kind h = refl
    size_of_element (type.contained_subtype t) kind h = size_of_member t (contained_inside t kind v h)
    size_of_element (type.range low high) kind h = refl
    size_of_element (type.size c) kind h = ap (some_passes (holds c (type.integer []))) (sym sized) ∙ size_inside c kind v h
    size_of_element (type.permitted_alphabet ranges) kind h = refl
    size_of_element (type.with_component c) kind h = refl
    size_of_element (type.with_components partial ps) kind h = refl
    size_of_element (type.union cs) kind h = size_of_some cs kind h
    size_of_element (type.intersection cs) kind h = size_of_all cs kind h
    size_of_element (type.except c d) kind h = size_of_one c kind (and_parts (holds c kind v) (not (holds d kind v)) h).0
    size_of_element (type.all_except c) kind h = refl

    size_of_member : (t : AbstractType) → is_member t v ≡ true → type_may_have_size t (pos n) ≡ true
    size_of_member (type_of tags kind cons) h =
        size_of_all cons kind (and_parts (fits_kind kind v) (all_hold cons kind v) (and_parts (fits_kind kind v && all_hold cons kind v) (parts_are_members kind v) h).0).1

    size_of_all : (cs : Constraints) (kind : AbstractKind) → all_hold cs kind v ≡ true → all_may_have_size cs (pos n) ≡ true
    size_of_all no_constraints kind h = refl
    size_of_all (constraint c cs) kind h =
        both_hold (holds c kind v) (all_hold cs kind v) (may_have_size c (pos n)) (all_may_have_size cs (pos n)) (size_of_one c kind) (size_of_all cs kind) h

    size_of_some : (cs : Constraints) (kind : AbstractKind) → some_hold cs kind v ≡ true → some_may_have_size cs (pos n) ≡ true
    size_of_some no_constraints kind h = absurd cc
    size_of_some (constraint c cs) kind h =
        one_holds (holds c kind v) (some_hold cs kind v) (may_have_size c (pos n)) (some_may_have_size cs (pos n)) (size_of_one c kind) (size_of_some cs kind) h

  size_of_demand : (d : Demand) → meets d v ≡ true → demand_may_have_size (pos n) d ≡ true
  size_of_demand (by_type t) h = size_of_member t h
  size_of_demand (by_constraint kind c) h = size_of_one c kind h

  pub size_of_demands : (asked : List Demand) → list_all (λ d. meets d v) asked ≡ true → list_all (demand_may_have_size (pos n)) asked ≡ true
  size_of_demands [] h = refl
  size_of_demands (d ∷ ds) h =
      both_hold (meets d v) (list_all (λ d. meets d v) ds) (demand_may_have_size (pos n) d) (list_all (demand_may_have_size (pos n)) ds) (size_of_demand d) (size_of_demands ds) h

-- ---- a size has what the last start before it has

module _ (p z : ℤ) (le : p ≤ℤ z) (p_fits : fits_128_bits p ≡ true) where
  kept_size : (c : Constraint) → Reaches p z (starts c) → (fits_128_bits z && holds c (type.integer []) (value.integer z)) ≡ true
      → (fits_128_bits p && holds c (type.integer []) (value.integer p)) ≡ true
  kept_size c r h =
      let parts = and_parts (fits_128_bits z) (holds c (type.integer []) (value.integer z)) h in
      ap (λ (b : Bool). b && holds c (type.integer []) (value.integer p)) p_fits ∙ same_holds p z le p_fits parts.0 c (type.integer []) r ∙ parts.1

  mutual
    kept_one : (c : Constraint) → Reaches p z (starts c) → may_have_size c z ≡ true → may_have_size c p ≡ true
    kept_one (at site e) r h = kept_element e r h

    kept_element : (e : Element) → Reaches p z (element_starts e) → element_may_have_size e z ≡ true → element_may_have_size e p ≡ true
    kept_element (type.single_value w) r h = refl
    kept_element (type.contained_subtype t) r h = kept_type t r h
    kept_element (type.range low high) r h = refl
    kept_element (type.size c) r h = kept_size c r h
    kept_element (type.permitted_alphabet ranges) r h = refl
    kept_element (type.with_component c) r h = refl
    kept_element (type.with_components partial ps) r h = refl
    kept_element (type.union cs) r h = kept_some cs r h
    kept_element (type.intersection cs) r h = kept_all cs r h
    kept_element (type.except c d) r h = kept_one c (reaches_both p z (starts c) (starts d) r).0 h
    kept_element (type.all_except c) r h = refl

    kept_type : (t : AbstractType) → Reaches p z (type_starts t) → type_may_have_size t z ≡ true → type_may_have_size t p ≡ true
    kept_type (type_of tags kind cons) r h = kept_all cons r h

    kept_all : (cs : Constraints) → Reaches p z (all_starts cs) → all_may_have_size cs z ≡ true → all_may_have_size cs p ≡ true
    kept_all no_constraints r h = refl
    kept_all (constraint c cs) r h =
        let both = reaches_both p z (starts c) (all_starts cs) r in
        both_hold (may_have_size c z) (all_may_have_size cs z) (may_have_size c p) (all_may_have_size cs p) (kept_one c both.0) (kept_all cs both.1) h

    kept_some : (cs : Constraints) → Reaches p z (all_starts cs) → some_may_have_size cs z ≡ true → some_may_have_size cs p ≡ true
    kept_some no_constraints r h = absurd cc
    kept_some (constraint c cs) r h =
        let both = reaches_both p z (starts c) (all_starts cs) r in
        one_holds (may_have_size c z) (some_may_have_size cs z) (may_have_size c p) (some_may_have_size cs p) (kept_one c both.0) (kept_some cs both.1) h

  kept_demand : (d : Demand) → Reaches p z (demand_starts d) → demand_may_have_size z d ≡ true → demand_may_have_size p d ≡ true
  kept_demand (by_type t) r h = kept_type t r h
  kept_demand (by_constraint kind c) r h = kept_one c r h

  pub kept_demands : (asked : List Demand) → Reaches p z (starts_of asked) → list_all (demand_may_have_size z) asked ≡ true → list_all (demand_may_have_size p) asked ≡ true
  kept_demands [] r h = refl
  kept_demands (d ∷ ds) r h =
      let both = reaches_both p z (demand_starts d) (starts_of ds) r in
      both_hold (demand_may_have_size z d) (list_all (demand_may_have_size z) ds) (demand_may_have_size p d) (list_all (demand_may_have_size p) ds)
      (kept_demand d both.0) (kept_demands ds both.1) h
