-- A set of integers has a number only if it has one where it may begin.
use Rattle.std.proofs.Common.{◌≡◌, zero, suc, ℤ, Bool, true, false, true≢false, not, ◌&&◌, ◌||◌, List, [], ◌∷◌, ◌++◌, refl, sym, ap, ◌∙◌, arith}
use Rattle.std.specs.Prelude.{⊤, ◌^◌, ◌-◌, pos, negsuc, ◌≤ℤ◌, ◌<ℤ◌, ◌+ℤ◌}
use Rattle.std.specs.Ordering.{int_eq}
use Rattle.std.specs.List.{list_any}
use Rattle.std.proofs.lemmas.Int.{ints, by_lt_z}
use Rattle.std.proofs.lemmas.Bool.Decides.{Decides-int_eq, nat_tests}
use Rattle.guard_model.specs.AbstractType as type
use Rattle.guard_model.specs.AbstractType.{AbstractType, AbstractKind, Constraint, Constraints, Element, type_of, at, no_constraints, constraint}
use Rattle.guard_model.specs.AbstractValue as value
use Rattle.guard_model.specs.AbstractValue.{AbstractValue}
use Rattle.guard_model.specs.Kinds.{is_integer}
use Rattle.guard_model.specs.Limits.{fits_128_bits}
use Rattle.guard_model.specs.Same.{same}
use Rattle.guard_model.specs.declared.ty.Limit.{Limit}
use Rattle.guard_model.specs.declared.ty.Limit.TheVariants.{Free, At, Past}
use Rattle.guard_eval.specs.Elements.{has_base, is_above, is_under}
use Rattle.guard_eval.specs.Member.{is_member, holds, holds_element, all_hold, some_hold}
use Rattle.guard_tables.specs.Demands.{Demand, by_type, by_constraint}
use Rattle.guard_eval.proofs.WholeSets.{integers_of}
use Rattle.guard_policy.specs.Barren.{least_number, low_starts, high_starts, value_starts, starts, element_starts, type_starts, all_starts, demand_starts, starts_of, demand_has_number, all_have_number}

-- each of these numbers of this profile that isn't above z isn't above p
abbrev pub Reaches : ℤ → ℤ → List ℤ → Type 0
Reaches p z [] = ⊤
Reaches p z (s ∷ ss) = (fits_128_bits s ≡ true → s ≤ℤ z → s ≤ℤ p) × Reaches p z ss

pub reaches_both : (p z : ℤ) (xs ys : List ℤ) → Reaches p z (xs ++ ys) → Reaches p z xs × Reaches p z ys
reaches_both p z [] ys r = (tt, r)
reaches_both p z (x ∷ xs) ys r = let rest = reaches_both p z xs ys r.1 in ((r.0, rest.0), rest.1)

-- the last of these up to z, or this one if none of them is later
pub record Last (z first : ℤ) (ss : List ℤ) : Type 0 where
  pub last : ℤ
  pub fits : fits_128_bits last ≡ true
  pub below : last ≤ℤ z
  pub above : first ≤ℤ last
  pub reaches : Reaches last z ss
  pub among : (f : ℤ → Bool) → f last ≡ true → (f first || list_any f ss) ≡ true

or_true : (a b : Bool) → b ≡ true → (a || b) ≡ true
or_true true b e = refl
or_true false b e = e

skip : (a b c : Bool) → (a || c) ≡ true → (a || (b || c)) ≡ true
skip true b c e = refl
skip false b c e = or_true b c e

-- one that is left out, since it isn't of this profile, or is past z or before the last one
leave_out : (z first s : ℤ) (ss : List ℤ) (l : Last z first ss) → (fits_128_bits s ≡ true → s ≤ℤ z → s ≤ℤ l.last) → Last z first (s ∷ ss)
leave_out z first s ss l passed = record {
  last = l.last;
  fits = l.fits;
  below = l.below;
  above = l.above;
  reaches = (passed, l.reaches);
  among = λ f e. skip (f first) (f s) (list_any f ss) (l.among f e);
}

pub last_of : (z first : ℤ) (ss : List ℤ) → fits_128_bits first ≡ true → first ≤ℤ z → Last z first ss
last_of z first [] first_fits le =
    record { last = first; fits = first_fits; below = le; above = omega (arith, ints); reaches = tt; among = λ f e. ap (λ (b : Bool). b || false) e }
last_of z first (s ∷ ss) first_fits le =
    (elim (fits_128_bits s) as (λ (b : Bool). fits_128_bits s ≡ b → Last z first (s ∷ ss)) [
      | false ↦ λ past. leave_out z first s ss (last_of z first ss first_fits le) (λ fits. absurd (true≢false (sym fits ∙ past)))
      | true ↦ λ s_fits.
          by_lt_z {P = Last z first (s ∷ ss)} z s
          (λ gt. leave_out z first s ss (last_of z first ss first_fits le) (λ _ here. absurd (omega (arith, ints, gt, here))))
          (λ here.
          by_lt_z {P = Last z first (s ∷ ss)} first s
          (λ gt.
          let l = last_of z s ss s_fits here in
          let a = l.above in
          record {
            last = l.last;
            fits = l.fits;
            below = l.below;
            above = omega (arith, ints, gt, a);
            reaches = (λ _ _. a, l.reaches);
            among = λ f e. or_true (f first) (f s || list_any f ss) (l.among f e);
          })
          (λ less.
          let l = last_of z first ss first_fits le in
          let a = l.above in
          leave_out z first s ss l (λ _ _. omega (arith, ints, less, a))))
    ]) refl

-- ---- numbers of this profile

pub low_bound : (z : ℤ) → fits_128_bits z ≡ true → least_number ≤ℤ z
low_bound (pos n) h = omega (arith, ints)
low_bound (negsuc n) h = grind (arith, ints, nat_tests)

pub high_bound : (z : ℤ) → fits_128_bits z ≡ true → z ≤ℤ pos (2 ^ 127 - 1)
high_bound (pos n) h = grind (arith, ints, nat_tests)
high_bound (negsuc n) h = omega (arith, ints)

pub next_fits : (z : ℤ) → z <ℤ pos (2 ^ 127 - 1) → least_number ≤ℤ z → fits_128_bits (z +ℤ pos 1) ≡ true
next_fits (pos n) less above = grind (arith, ints, nat_tests, less)
next_fits (negsuc zero) less above = refl
next_fits (negsuc (suc n)) less above = grind (arith, ints, nat_tests, above)

pub between_fits : (p s z : ℤ) → p ≤ℤ s → s ≤ℤ z → fits_128_bits p ≡ true → fits_128_bits z ≡ true → fits_128_bits s ≡ true
between_fits p (pos n) (pos m) a b pf zf = grind (arith, ints, nat_tests)
between_fits p (pos n) (negsuc m) a b pf zf = absurd (omega (arith, ints))
between_fits (negsuc k) (negsuc n) z a b pf zf = grind (arith, ints, nat_tests)
between_fits (pos k) (negsuc n) z a b pf zf = absurd (omega (arith, ints))

eq_same : (n p z : ℤ) → (n ≡ p → n ≡ z) → (n ≡ z → n ≡ p) → int_eq n p ≡ int_eq n z
eq_same n p z to from =
    (elim (int_eq n p) as (λ (b : Bool). int_eq n p ≡ b → b ≡ int_eq n z) [
      | true ↦ λ is. sym ((Decides-int_eq n z).1 (to ((Decides-int_eq n p).0 is)))
      | false ↦ λ other. sym (
          (elim (int_eq n z) as (λ (b : Bool). int_eq n z ≡ b → b ≡ false) [
            | true ↦ λ is. sym ((Decides-int_eq n p).1 (from ((Decides-int_eq n z).0 is))) ∙ other
            | false ↦ λ none. refl
          ]) refl)
    ]) refl

-- ---- no start lies between p and z, so each set has both of them or none

module _ (p z : ℤ) (le : p ≤ℤ z) (p_fits : fits_128_bits p ≡ true) (z_fits : fits_128_bits z ≡ true) where
  started : (s : ℤ) (ss : List ℤ) → Reaches p z (s ∷ ss) → s ≤ℤ z → s ≤ℤ p
  started s ss r here =
      by_lt_z {P = s ≤ℤ p} p s
      (λ gt. r.0 (between_fits p s z (omega (arith, ints, gt)) here p_fits z_fits) here)
      (λ done. done)

  same_alone : (n : ℤ) → Reaches p z (value_starts (value.integer n)) → int_eq n p ≡ int_eq n z
  same_alone n r =
      by_lt_z z n (λ past. eq_same n p z (λ e. absurd (omega (arith, ints, past, le, e))) (λ e. absurd (omega (arith, ints, past, e))))
      (λ here. let reached = started n ((n +ℤ pos 1) ∷ []) r here in
      by_lt_z z (n +ℤ pos 1) (λ last. eq_same n p z (λ e. omega (arith, ints, last, here)) (λ e. omega (arith, ints, last, reached, le)))
      (λ more. let passed = started (n +ℤ pos 1) [] r.1 more in eq_same n p z (λ e. absurd (omega (arith, ints, passed, e))) (λ e. absurd (omega (arith, ints, more, e)))))

  same_value : (w : AbstractValue) → Reaches p z (value_starts w) → same w (value.integer p) ≡ same w (value.integer z)
  same_value (value.boolean b) r = refl
  same_value (value.integer n) r = same_alone n r
  same_value (value.enumerated n) r = refl
  same_value value.null r = refl
  same_value (value.bit_string os unused) r = refl
  same_value (value.octet_string os) r = refl
  same_value (value.object_identifier arcs) r = refl
  same_value (value.characters cs) r = refl
  same_value (value.fields fs) r = refl
  same_value (value.items vs) r = refl
  same_value (value.chosen i v) r = refl

  same_above : (low : Limit) → Reaches p z (low_starts low) → is_above low p ≡ is_above low z
  same_above Free r = refl
  same_above (At n) r = by_lt_z z n (λ past. grind (arith, ints, past, le)) (λ here. let reached = started n [] r here in grind (arith, ints, here, reached))
  same_above (Past n) r =
      by_lt_z z (n +ℤ pos 1) (λ past. grind (arith, ints, past, le)) (λ here. let reached = started (n +ℤ pos 1) [] r here in grind (arith, ints, here, reached))

  same_under : (high : Limit) → Reaches p z (high_starts high) → is_under high p ≡ is_under high z
  same_under Free r = refl
  same_under (At n) r =
      by_lt_z z (n +ℤ pos 1) (λ past. grind (arith, ints, past, le)) (λ here. let reached = started (n +ℤ pos 1) [] r here in grind (arith, ints, here, reached))
  same_under (Past n) r = by_lt_z z n (λ past. grind (arith, ints, past, le)) (λ here. let reached = started n [] r here in grind (arith, ints, here, reached))

  mutual
    pub same_holds : (c : Constraint) (kind : AbstractKind) → Reaches p z (starts c) → holds c kind (value.integer p) ≡ holds c kind (value.integer z)
    same_holds (at site e) kind r = same_element e kind r

    same_element : (e : Element) (kind : AbstractKind) → Reaches p z (element_starts e) → holds_element e kind (value.integer p) ≡ holds_element e kind (value.integer z)
    same_element (type.single_value w) kind r = same_value w r
    same_element (type.contained_subtype t) kind r = ap (λ (b : Bool). has_base kind t && b) (same_member t r)
    same_element (type.range low high) kind r =
        let both = reaches_both p z (low_starts low) (high_starts high) r in
        ap (λ (b : Bool). b && is_under high p) (same_above low both.0) ∙ ap (λ (b : Bool). is_above low z && b) (same_under high both.1)
    same_element (type.size c) kind r = refl
    same_element (type.permitted_alphabet ranges) kind r = refl
    same_element (type.with_component c) kind r = refl
    same_element (type.with_components partial ps) kind r = refl
    same_element (type.union cs) kind r = same_some cs kind r
    same_element (type.intersection cs) kind r = same_all cs kind r
    same_element (type.except c d) kind r =
        let both = reaches_both p z (starts c) (starts d) r in
        ap (λ (b : Bool). b && not (holds d kind (value.integer p))) (same_holds c kind both.0)
        ∙ ap (λ (b : Bool). holds c kind (value.integer z) && not b) (same_holds d kind both.1)
    same_element (type.all_except c) kind r = ap not (same_holds c kind r)

    pub same_member : (t : AbstractType) → Reaches p z (type_starts t) → is_member t (value.integer p) ≡ is_member t (value.integer z)
    same_member (type_of tags kind cons) r =
        integers_of tags kind cons p
        ∙ ap (λ (b : Bool). is_integer kind && (b && all_hold cons kind (value.integer p))) (p_fits ∙ sym z_fits)
        ∙ ap (λ (b : Bool). is_integer kind && (fits_128_bits z && b)) (same_all cons kind r)
        ∙ sym (integers_of tags kind cons z)

    same_all : (cs : Constraints) (kind : AbstractKind) → Reaches p z (all_starts cs) → all_hold cs kind (value.integer p) ≡ all_hold cs kind (value.integer z)
    same_all no_constraints kind r = refl
    same_all (constraint c cs) kind r =
        let both = reaches_both p z (starts c) (all_starts cs) r in
        ap (λ (b : Bool). b && all_hold cs kind (value.integer p)) (same_holds c kind both.0)
        ∙ ap (λ (b : Bool). holds c kind (value.integer z) && b) (same_all cs kind both.1)

    same_some : (cs : Constraints) (kind : AbstractKind) → Reaches p z (all_starts cs) → some_hold cs kind (value.integer p) ≡ some_hold cs kind (value.integer z)
    same_some no_constraints kind r = refl
    same_some (constraint c cs) kind r =
        let both = reaches_both p z (starts c) (all_starts cs) r in
        ap (λ (b : Bool). b || some_hold cs kind (value.integer p)) (same_holds c kind both.0)
        ∙ ap (λ (b : Bool). holds c kind (value.integer z) || b) (same_some cs kind both.1)

  same_demand : (d : Demand) → Reaches p z (demand_starts d) → demand_has_number p d ≡ demand_has_number z d
  same_demand (by_type t) r = same_member t r
  same_demand (by_constraint kind c) r = ap (λ (b : Bool). not (is_integer kind) || b) (same_holds c kind r)

  pub same_demands : (asked : List Demand) → Reaches p z (starts_of asked) → all_have_number asked p ≡ all_have_number asked z
  same_demands [] r = refl
  same_demands (d ∷ ds) r =
      let both = reaches_both p z (demand_starts d) (starts_of ds) r in
      ap (λ (b : Bool). b && all_have_number ds p) (same_demand d both.0) ∙ ap (λ (b : Bool). demand_has_number z d && b) (same_demands ds both.1)
