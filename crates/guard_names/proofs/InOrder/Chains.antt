-- Chains of uses. Where each definition of some uses one of them, one of them uses itself.
use Rattle.std.proofs.Common.{◌≡◌, ◌⊎◌, inl, inr, ⊎_elim, ℕ, zero, suc, ◌+◌, ◌<◌, Bool, true, false, ◌||◌, List, [], ◌∷◌, length, refl, sym, subst, arith, rules}
use Rattle.std.specs.Prelude.{nat_eq}
use Rattle.std.specs.List.{IsDistinct, AllByRecursion}
use Rattle.std.proofs.lemmas.Bool.{eqb-true}
use Rattle.std.proofs.lemmas.Map.Keys.{IsDistinct-cons}
use Rattle.std.proofs.lemmas.Map.Steps.{length-le_from_distinct_below}
use Rattle.guard_names.specs.Order.{is_listed, Leads, at_once, through, IsRecursive}

module _ {uses : ℕ → ℕ → Type 0} where
  pub leads_on : {a b c : ℕ} → Leads uses a b → Leads uses b c → Leads uses a c
  leads_on (at_once u) rest = through u rest
  leads_on (through u chain) rest = through u (leads_on chain rest)

-- a test of two that is true is true of one of them
pub or_true : (a b : Bool) → (a || b) ≡ true → (a ≡ true) ⊎ (b ≡ true)
or_true true b h = inl refl
or_true false b h = inr h

pub or_false : (a b : Bool) → (a || b) ≡ false → (a ≡ false) × (b ≡ false)
or_false true b h = absurd cc
or_false false b h = (refl, h)

none_equal : (x : ℕ) (xs : List ℕ) → is_listed xs x ≡ false → AllByRecursion (λ y. nat_eq x y ≡ false) xs
none_equal x [] h = tt
none_equal x (y ∷ ys) h = let p = or_false (nat_eq x y) (is_listed ys x) h in (p.0, none_equal x ys p.1)

module _ (count : ℕ) (uses : ℕ → ℕ → Type 0) (open_at : ℕ → Bool)
    (next : (k : ℕ) → k < count → open_at k ≡ true → (used : ℕ) × (used < count) × (open_at used ≡ true) × uses k used) where
  -- what was visited on the way, all of which leads to where the way has come
  record IsWay (visited : List ℕ) (here : ℕ) : Type 0 where
    below : (k : ℕ) → is_listed visited k ≡ true → k < count
    distinct : IsDistinct nat_eq visited
    leads : (k : ℕ) → is_listed visited k ≡ true → Leads uses k here
    new : is_listed visited here ≡ false

  walk : (fuel : ℕ) (visited : List ℕ) (here : ℕ) → length visited + fuel ≡ suc count → here < count → open_at here ≡ true → IsWay visited here → (k : ℕ) × IsRecursive uses k
  walk zero visited here size below is way = absurd (omega (arith, length-le_from_distinct_below visited count way.distinct way.below))
  walk (suc fuel) visited here size below is way =
      let n = next here below is in
      on n.0 n.1 n.2 n.3 (is_listed (here ∷ visited) n.0) refl (walk fuel (here ∷ visited) n.0 (omega arith) n.1 n.2)
    where
      more : (used : ℕ) → uses here used → is_listed (here ∷ visited) used ≡ false → IsWay (here ∷ visited) used
      more used u new' = record {
        below = λ k h. ⊎_elim (λ (same : nat_eq k here ≡ true). subst (λ x. x < count) (sym (eqb-true k here same)) below) (λ old. way.below k old) (or_true (nat_eq k here) (is_listed visited k) h);
        distinct = IsDistinct-cons nat_eq here visited (none_equal here visited way.new) way.distinct;
        leads = λ k h. ⊎_elim (λ (same : nat_eq k here ≡ true). subst (λ x. Leads uses x used) (sym (eqb-true k here same)) (at_once u)) (λ old. leads_on (way.leads k old) (at_once u)) (or_true (nat_eq k here) (is_listed visited k) h);
        new = new';
      }

      on : (used : ℕ) → used < count → open_at used ≡ true → uses here used → (b : Bool) → is_listed (here ∷ visited) used ≡ b
          → (IsWay (here ∷ visited) used → (k : ℕ) × IsRecursive uses k) → (k : ℕ) × IsRecursive uses k
      on used inside is' u false e rest = rest (more used u e)
      on used inside is' u true e rest =
          ⊎_elim (λ (same : nat_eq used here ≡ true). (here, at_once (subst (uses here) (eqb-true used here same) u)))
          (λ old. (used, leads_on (way.leads used old) (at_once u)))
          (or_true (nat_eq used here) (is_listed visited used) e)

  pub stuck_is_recursive : (k : ℕ) → k < count → open_at k ≡ true → (r : ℕ) × IsRecursive uses r
  unfolding IsDistinct
  stuck_is_recursive k below is = walk (suc count) [] k (omega arith) below is (record {
    below = λ q h. absurd cc;
    distinct = search rules;
    leads = λ q h. absurd cc;
    new = refl;
  })
