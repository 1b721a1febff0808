-- The place of each definition in the order: there is one.
use Rattle.std.proofs.Common.{◌≡◌, ⊎_elim, ℕ, zero, suc, ◌+◌, ◌<◌, Bool, true, false, ◌||◌, List, [], ◌∷◌, ◌++◌, length, get_or, set, take, Some, slice_get, nat_eq, refl, sym, ◌∙◌, ap, subst, eqb-true, eq-eqb, get_or-set_same, get_or-set_other}
use Rattle.std.proofs.lemmas.Bool.{or_cases}
use Rattle.std.proofs.lemmas.List.{take_more}
use Rattle.std.proofs.lemmas.List.Folds.{list_any-append}
use Rattle.std.proofs.lemmas.Option.{same_Some, slice_get-get_or}
use Rattle.guard_names.specs.Order.{is_listed, Follow, IsOrder}

either_false : (a b : Bool) → (a || b) ≡ false → (a ≡ false) × (b ≡ false)
either_false true b h = absurd cc
either_false false b h = (refl, h)

false_true : false ≡ true → ⊥
false_true h = cc

-- what is in a place is listed, and the other way round
pub listed_there : (xs : List ℕ) (place number : ℕ) → slice_get xs place ≡ Some number → is_listed xs number ≡ true
listed_there [] place number h = absurd cc
listed_there (x ∷ xs) zero number h = rw (same_Some x number h, eq-eqb number number refl) refl
listed_there (x ∷ xs) (suc place) number h = or_right (nat_eq number x) (is_listed xs number) (listed_there xs place number h)
  where
    or_right : (a b : Bool) → b ≡ true → (a || b) ≡ true
    or_right true b e = refl
    or_right false b e = e

module _ (count : ℕ) (uses : ℕ → ℕ → Type 0) where
  follow_below : (listed rest : List ℕ) → Follow count uses listed rest → (number : ℕ) → is_listed rest number ≡ true → number < count
  follow_below listed [] f number h = absurd (false_true h)
  follow_below listed (x ∷ rest) f number h = ⊎_elim
      (λ (same : nat_eq number x ≡ true). subst (λ k. k < count) (sym (eqb-true number x same)) f.0.ready.below)
      (λ (later : is_listed rest number ≡ true). follow_below (listed ++ x ∷ []) rest f.1 number later)
      (or_cases (nat_eq number x) (is_listed rest number) h)

  -- what is in an order is a definition
  pub order_below : (numbers : List ℕ) → IsOrder count uses numbers → (number : ℕ) → is_listed numbers number ≡ true → number < count
  order_below numbers o number h = follow_below [] numbers o.follow number h

  -- what follows isn't listed before
  follow_new : (listed rest : List ℕ) → Follow count uses listed rest → (number : ℕ) → is_listed rest number ≡ true → is_listed listed number ≡ false
  follow_new listed [] f number h = absurd (false_true h)
  follow_new listed (x ∷ rest) f number h = ⊎_elim
      (λ (same : nat_eq number x ≡ true). subst (λ k. is_listed listed k ≡ false) (sym (eqb-true number x same)) f.0.ready.unlisted)
      (λ (later : is_listed rest number ≡ true). (either_false (is_listed listed number) (is_listed (x ∷ []) number) (sym (list_any-append (nat_eq number) listed (x ∷ [])) ∙ follow_new (listed ++ x ∷ []) rest f.1 number later)).0)
      (or_cases (nat_eq number x) (is_listed rest number) h)

  -- the first doesn't follow once more
  not_again : (listed rest : List ℕ) (x : ℕ) → Follow count uses (listed ++ x ∷ []) rest → is_listed rest x ≡ true → ⊥
  not_again listed rest x f h =
      let new = either_false (is_listed listed x) (is_listed (x ∷ []) x) (sym (list_any-append (nat_eq x) listed (x ∷ [])) ∙ follow_new (listed ++ x ∷ []) rest f x h) in
      false_true (sym (either_false (nat_eq x x) false new.1).0 ∙ eq-eqb x x refl)

  one_place : (listed rest : List ℕ) → Follow count uses listed rest → (p q number : ℕ) → slice_get rest p ≡ Some number → slice_get rest q ≡ Some number → p ≡ q
  one_place listed [] f p q number a b = absurd cc
  one_place listed (x ∷ rest) f zero zero number a b = refl
  one_place listed (x ∷ rest) f zero (suc q) number a b = absurd (not_again listed rest x f.1 (rw (same_Some x number a) (listed_there rest q number b)))
  one_place listed (x ∷ rest) f (suc p) zero number a b = absurd (not_again listed rest x f.1 (rw (same_Some x number b) (listed_there rest p number a)))
  one_place listed (x ∷ rest) f (suc p) (suc q) number a b = ap suc (one_place (listed ++ x ∷ []) rest f.1 p q number a b)

  -- each definition is in one place of an order
  pub order_place : (numbers : List ℕ) → IsOrder count uses numbers → (p q number : ℕ) → slice_get numbers p ≡ Some number → slice_get numbers q ≡ Some number → p ≡ q
  order_place numbers o p q number a b = one_place [] numbers o.follow p q number a b

-- ---- the list of places

-- one more place
pub placed_more : (order places : List ℕ) (i d : ℕ) → i < length order → get_or order i d < length places
    → ((number : ℕ) → is_listed (take i order) number ≡ true → slice_get order (get_or places number 0) ≡ Some number)
    → (number : ℕ) → is_listed (take (i + 1) order) number ≡ true → slice_get order (get_or (set places (get_or order i d) i) number 0) ≡ Some number
placed_more order places i d inside below placed number h = by (nat_eq number (get_or order i d)) refl
  where
    either : (is_listed (take i order) number || is_listed (get_or order i d ∷ []) number) ≡ true
    either = sym (list_any-append (nat_eq number) (take i order) (get_or order i d ∷ [])) ∙ ap (λ xs. is_listed xs number) (sym (take_more order i d inside)) ∙ h

    by : (b : Bool) → nat_eq number (get_or order i d) ≡ b → slice_get order (get_or (set places (get_or order i d) i) number 0) ≡ Some number
    by true e =
        let same : number ≡ get_or order i d = eqb-true number (get_or order i d) e in
        rw (same, get_or-set_same places (get_or order i d) i 0 below) (slice_get-get_or order i d inside)
    by false e =
        let old : is_listed (take i order) number ≡ true = ⊎_elim (λ (o : is_listed (take i order) number ≡ true). o) (λ (n : is_listed (get_or order i d ∷ []) number ≡ true). absurd (false_true (sym (ap (λ b. b || false) e) ∙ n))) (or_cases _ _ either) in
        rw (get_or-set_other places (get_or order i d) number i 0 (λ same. false_true (sym e ∙ eq-eqb number (get_or order i d) same))) (placed number old)
