-- How definitions move on their way into the order.
use Rattle.std.proofs.Common.{◌≡◌, ◌≢◌, ◌⊎◌, inl, inr, ⊎_elim, ℕ, zero, suc, ◌+◌, ◌<◌, ◌≤◌, Bool, true, false, cond, not, ◌||◌, List, [], ◌∷◌, ◌++◌, length, get_or, set, refl, sym, ◌∙◌, ap, subst, arith}
use Rattle.std.specs.Prelude.{nat_eq, nat_lt, sum_by, All}
use Rattle.std.specs.List.{list_any}
use Rattle.std.proofs.lemmas.Bool.{eqb-true, ne_eqb, eq-eqb, ltb-true, ltb-false, not-true}
use Rattle.std.proofs.lemmas.Bool.Decides.{eqb_tells}
use Rattle.std.proofs.lemmas.List.{length-set, get_or-set_same, get_or-set_other}
use Rattle.std.proofs.lemmas.List.Elements.{All-push, All-nil, All-weaker, All-get_or}
use Rattle.std.proofs.lemmas.List.Folds.{list_any-append, list_any_at}
use Rattle.std.proofs.lemmas.List.Sums.{sum_by-cons, sum_by_push, sum_by-set}
use Rattle.guard_names.specs.declared.order.Waiting.{Waiting}
use Rattle.guard_names.specs.Order.{is_listed, IsReady, IsNext, IsRecursive}
use Rattle.guard_names.specs.inside.Queues.{times, times_waiting, times_in, once_at, used_by, UsesIn, AreInside, IsMet, IsWaitingFor, IsReleased, ArePlaced}
use Rattle.guard_names.proofs.InOrder.Chains.{or_false, stuck_is_recursive}

true_false : {P : Type 0} → true ≡ false → P
true_false h = absurd cc

-- ---- lists of numbers

-- what is listed before is listed after one more
pub still_listed : (listed : List ℕ) (a k : ℕ) → is_listed listed k ≡ true → is_listed (listed ++ a ∷ []) k ≡ true
still_listed listed a k h = rw (list_any-append (nat_eq k) listed (a ∷ []), h) refl

pub listed_last : (listed : List ℕ) (a : ℕ) → is_listed (listed ++ a ∷ []) a ≡ true
listed_last listed a = rw (list_any-append (nat_eq a) listed (a ∷ []), eq-eqb a a refl) (or_is_true (is_listed listed a))
  where
    or_is_true : (b : Bool) → (b || (true || false)) ≡ true
    or_is_true true = refl
    or_is_true false = refl

-- nothing else is listed by it
pub still_unlisted : (listed : List ℕ) (a k : ℕ) → is_listed listed k ≡ false → k ≢ a → is_listed (listed ++ a ∷ []) k ≡ false
still_unlisted listed a k h other = rw (list_any-append (nat_eq k) listed (a ∷ []), h, ne_eqb k a other) refl

pub times_of_listed : (xs : List ℕ) (k : ℕ) → is_listed xs k ≡ true → 0 < times xs k
times_of_listed [] k h = absurd cc
times_of_listed (x ∷ xs) k h = rw (sum_by-cons (λ y. cond (nat_eq k y) 1 0) x xs) (by (nat_eq k x) (is_listed xs k) refl h (times_of_listed xs k))
  where
    by : (b r : Bool) → is_listed xs k ≡ r → (b || r) ≡ true → (is_listed xs k ≡ true → 0 < times xs k) → 0 < cond b 1 0 + times xs k
    by true r e h' rest = omega arith
    by false true e h' rest = let p = rest e in omega arith
    by false false e h' rest = absurd cc

pub times_of_unlisted : (xs : List ℕ) (k : ℕ) → is_listed xs k ≡ false → times xs k ≡ 0
times_of_unlisted [] k h = refl
times_of_unlisted (x ∷ xs) k h =
    let p = or_false (nat_eq k x) (is_listed xs k) h in
    let r : times xs k ≡ 0 = times_of_unlisted xs k p.1 in
    rw (sum_by-cons (λ y. cond (nat_eq k y) 1 0) x xs, p.0) (omega (arith, r))

-- a sum that isn't 0 has a term that isn't
pub positive_term : {X : Type 0} (f : X → ℕ) (d : X) (xs : List X) → 0 < sum_by f xs → (i : ℕ) × (i < length xs) × (0 < f (get_or xs i d))
positive_term f d [] h = absurd (omega (arith, h))
positive_term f d (x ∷ xs) h = by (f x) refl (λ p. positive_term f d xs p)
  where
    by : (n : ℕ) → f x ≡ n → (0 < sum_by f xs → (i : ℕ) × (i < length xs) × (0 < f (get_or xs i d))) → (i : ℕ) × (i < length (x ∷ xs)) × (0 < f (get_or (x ∷ xs) i d))
    by (suc n) e rest = (0, omega arith, omega (arith, e))
    by zero e rest =
        let s = sum_by-cons f x xs in
        let r = rest (omega (arith, s, e, h)) in
        (suc r.0, omega (arith, r.1), r.2)

module _ (us : List (List ℕ)) where
  -- ---- one that was underway

  pub settled_ready : (listed : List ℕ) (ready ready' underway : ℕ → ℕ) (waiting : List (List Waiting)) (a : ℕ)
      → ArePlaced us listed ready waiting (λ k. once_at a k + underway k) → ((k : ℕ) → ready' k ≡ once_at a k + ready k) → IsMet us listed a
      → ArePlaced us listed ready' waiting underway
  settled_ready listed ready ready' underway waiting a s e met = record {
    size = s.size;
    once = λ k. let o = s.once k in let p = e k in omega (arith, o, p);
    ready_met = λ k h. ⊎_elim (λ same. subst (λ x. IsMet us listed x) (sym same.1) met)
        (λ other. s.ready_met k (let p : ready' k ≡ cond (nat_eq k a) 1 0 + ready k = e k in let q : ready' k ≡ cond false 1 0 + ready k = rw other.0 at p in omega (arith, q, h))) (eqb_tells k a);
    waiting_for = s.waiting_for;
  }

  pub settled_waiting : (listed : List ℕ) (ready underway : ℕ → ℕ) (waiting : List (List Waiting)) (used : ℕ) (w : Waiting)
      → ArePlaced us listed ready waiting (λ k. once_at w.number k + underway k) → used < length us → IsWaitingFor us listed used w
      → ArePlaced us listed ready (set waiting used (get_or waiting used [] ++ w ∷ [])) underway
  settled_waiting listed ready underway waiting used w s inside waits =
      let here : used < length waiting = omega (arith, s.size, inside) in
      record {
        size = length-set waiting used (get_or waiting used [] ++ w ∷ []) ∙ s.size;
        once = λ k.
            let o = s.once k in
            let t = sum_by-set (λ ws. times_waiting ws k) waiting used (get_or waiting used [] ++ w ∷ []) [] here in
            let p = sum_by_push (λ v. cond (nat_eq k v.number) 1 0) (get_or waiting used []) w in
            omega (arith, o, t, p);
        ready_met = s.ready_met;
        waiting_for = λ other. put other (eqb_tells other used) here;
      }
    where
      put : (other : ℕ) → ((nat_eq other used ≡ true) × (other ≡ used)) ⊎ ((nat_eq other used ≡ false) × (other ≢ used)) → used < length waiting
          → All (IsWaitingFor us listed other) (get_or (set waiting used (get_or waiting used [] ++ w ∷ [])) other [])
      put other (inr apart) here = rw (get_or-set_other waiting used other (get_or waiting used [] ++ w ∷ []) [] apart.1) (s.waiting_for other)
      put other (inl same) here =
          let new : All (IsWaitingFor us listed used) (get_or (set waiting used (get_or waiting used [] ++ w ∷ [])) used []) =
          rw (get_or-set_same waiting used (get_or waiting used [] ++ w ∷ []) [] here) (All-push (IsWaitingFor us listed used) (get_or waiting used []) w (s.waiting_for used) waits) in
          subst (λ x. All (IsWaitingFor us listed x) (get_or (set waiting used (get_or waiting used [] ++ w ∷ [])) x [])) (sym same.1) new

  -- ---- one that is listed

  pub listed_one : (listed : List ℕ) (ready : ℕ → ℕ) (waiting : List (List Waiting)) (a : ℕ)
      → ArePlaced us listed ready waiting (once_at a) → a < length us
      → ArePlaced us (listed ++ a ∷ []) ready (set waiting a []) (times_waiting (get_or waiting a []))
  listed_one listed ready waiting a s inside =
      let here : a < length waiting = omega (arith, s.size, inside) in
      record {
        size = length-set waiting a [] ∙ s.size;
        once = λ k.
            let o = s.once k in
            let t = sum_by-set (λ ws. times_waiting ws k) waiting a [] [] here in
            let l = sum_by_push (λ x. cond (nat_eq k x) 1 0) listed a in
            omega (arith, o, t, l);
        ready_met = λ k h used u. still_listed listed a used (s.ready_met k h used u);
        waiting_for = λ other. still other (eqb_tells other a) here;
      }
    where
      still : (other : ℕ) → ((nat_eq other a ≡ true) × (other ≡ a)) ⊎ ((nat_eq other a ≡ false) × (other ≢ a)) → a < length waiting
          → All (IsWaitingFor us (listed ++ a ∷ []) other) (get_or (set waiting a []) other [])
      still other (inr apart) here =
          rw (get_or-set_other waiting a other [] [] apart.1)
          (All-weaker (IsWaitingFor us listed other) (IsWaitingFor us (listed ++ a ∷ []) other)
          (λ w h. record { number = h.number; here = h.here; is = h.is; met = λ i below. still_listed listed a (get_or (used_by us w.number) i 0) (h.met i below); unlisted = still_unlisted listed a other h.unlisted apart.1 })
          (get_or waiting other []) (s.waiting_for other))
      still other (inl same) here =
          let new : All (IsWaitingFor us (listed ++ a ∷ []) a) (get_or (set waiting a []) a []) = rw (get_or-set_same waiting a [] [] here) (All-nil (IsWaitingFor us (listed ++ a ∷ []) a)) in
          subst (λ x. All (IsWaitingFor us (listed ++ a ∷ []) x) (get_or (set waiting a []) x [])) (sym same.1) new

  -- the one that is taken out of those that are ready
  pub taken : (listed : List ℕ) (ready ready' : ℕ → ℕ) (waiting : List (List Waiting)) (a : ℕ)
      → ArePlaced us listed ready waiting (λ _. 0) → ((k : ℕ) → ready' k + once_at a k ≡ ready k) → ArePlaced us listed ready' waiting (once_at a)
  taken listed ready ready' waiting a s e = record {
    size = s.size;
    once = λ k. let o = s.once k in let p = e k in omega (arith, o, p);
    ready_met = λ k h. s.ready_met k (let p = e k in omega (arith, p, h));
    waiting_for = s.waiting_for;
  }

  pub released_by : (listed : List ℕ) (ready underway : ℕ → ℕ) (waiting : List (List Waiting)) (a : ℕ)
      → ArePlaced us listed ready waiting underway → All (IsReleased us (listed ++ a ∷ [])) (get_or waiting a [])
  released_by listed ready underway waiting a s =
      All-weaker (IsWaitingFor us listed a) (IsReleased us (listed ++ a ∷ []))
      (λ w h. record { number = h.number; met = λ i below. still_listed listed a (get_or (used_by us w.number) i 0) (h.met i below) })
      (get_or waiting a []) (s.waiting_for a)

  -- ---- what is known of them

  module _ (listed : List ℕ) (ready underway : ℕ → ℕ) (waiting : List (List Waiting)) (s : ArePlaced us listed ready waiting underway) where
    is_definition : (k : ℕ) → 0 < times listed k + ready k + times_in waiting k → k < length us
    is_definition k h = by (nat_lt k (length us)) refl (s.once k)
      where
        by : (b : Bool) → nat_lt k (length us) ≡ b → times listed k + ready k + times_in waiting k + underway k ≡ cond b 1 0 → k < length us
        by true e o = omega (arith, ltb-true k (length us) e)
        by false e o = absurd (omega (arith, o, h))

    at_most_once : (k : ℕ) → times listed k + ready k + times_in waiting k + underway k ≤ 1
    at_most_once k = by (nat_lt k (length us)) (s.once k)
      where
        by : (b : Bool) → times listed k + ready k + times_in waiting k + underway k ≡ cond b 1 0 → times listed k + ready k + times_in waiting k + underway k ≤ 1
        by true o = omega (arith, o)
        by false o = omega (arith, o)

    just_once : (k : ℕ) → k < length us → times listed k + ready k + times_in waiting k + underway k ≡ 1
    just_once k below = by (nat_lt k (length us)) refl (s.once k)
      where
        by : (b : Bool) → nat_lt k (length us) ≡ b → times listed k + ready k + times_in waiting k + underway k ≡ cond b 1 0 → times listed k + ready k + times_in waiting k + underway k ≡ 1
        by true e o = o
        by false e o = absurd (omega (arith, ltb-false k (length us) e, below))

    pub ready_below : (k : ℕ) → 0 < ready k → k < length us
    ready_below k h = is_definition k (omega (arith, h))

    ready_unlisted : (k : ℕ) → 0 < ready k → is_listed listed k ≡ false
    ready_unlisted k h = by (is_listed listed k) refl
      where
        by : (b : Bool) → is_listed listed k ≡ b → is_listed listed k ≡ false
        by false e = e
        by true e = absurd (omega (arith, times_of_listed listed k e, at_most_once k, h))

    -- what waits, waits for one that isn't listed and that it uses
    waits_for : (k : ℕ) → 0 < times_in waiting k → (used : ℕ) × (is_listed listed used ≡ false) × UsesIn us k used
    waits_for k h =
        let row = positive_term (λ ws. times_waiting ws k) [] waiting h in
        let ws = get_or waiting row.0 [] in
        let at = positive_term (λ w. cond (nat_eq k w.number) 1 0) none ws row.2 in
        let w = get_or ws at.0 none in
        let waits = All-get_or (IsWaitingFor us listed row.0) ws at.0 none at.1 (s.waiting_for row.0) in
        (row.0, waits.unlisted, by_number w waits (nat_eq k w.number) refl at.2)
      where
        none : Waiting
        none = record { number = 0; met = 0 }

        by_number : {used : ℕ} (w : Waiting) → IsWaitingFor us listed used w → (b : Bool) → nat_eq k w.number ≡ b → 0 < cond b 1 0 → UsesIn us k used
        by_number {used} w waits true e h' =
            let at : list_any (nat_eq used) (used_by us w.number) ≡ true = list_any_at (nat_eq used) (used_by us w.number) w.met 0 waits.here (eq-eqb used (get_or (used_by us w.number) w.met 0) (sym waits.is)) in
            subst (λ x. UsesIn us x used) (sym (eqb-true k w.number e)) at
        by_number w waits false e h' = absurd (omega (arith, h'))

    -- the least that is ready is the next one
    pub least_is_next : (a : ℕ) → 0 < ready a → ((k : ℕ) → 0 < ready k → a ≤ k) → ((k : ℕ) → underway k ≡ 0) → IsNext (length us) (UsesIn us) listed a
    least_is_next a h least still = record {
      ready = record { below = ready_below a h; unlisted = ready_unlisted a h; met = s.ready_met a h };
      first = λ other before r. by other before r (times_in waiting other) refl;
    }
      where
        by : (other : ℕ) → other < a → IsReady (length us) (UsesIn us) listed other → (n : ℕ) → times_in waiting other ≡ n → ⊥
        by other before r zero e =
            let one = just_once other r.below in
            let none = times_of_unlisted listed other r.unlisted in
            let at = still other in
            omega (arith, least other (omega (arith, one, none, at, e)), before)
        by other before r (suc n) e =
            let waits = waits_for other (omega (arith, e)) in
            let listed_one' : is_listed listed waits.0 ≡ true = r.met waits.0 waits.2 in
            absurd (true_false (sym listed_one' ∙ waits.1))

    -- where none is ready and none underway, all are listed, unless one uses itself
    pub all_are_listed : AreInside us → ((k : ℕ) → ready k ≡ 0) → ((k : ℕ) → underway k ≡ 0) → ((k : ℕ) → IsRecursive (UsesIn us) k → ⊥) → (k : ℕ) → k < length us → is_listed listed k ≡ true
    all_are_listed inside none_ready still acyclic k below = by (is_listed listed k) refl
      where
        next : (k : ℕ) → k < length us → not (is_listed listed k) ≡ true → (used : ℕ) × (used < length us) × (not (is_listed listed used) ≡ true) × UsesIn us k used
        next k below is =
            let unlisted : is_listed listed k ≡ false = not-true (is_listed listed k) is in
            let one = just_once k below in
            let none = times_of_unlisted listed k unlisted in
            let r = none_ready k in
            let u = still k in
            let waits = waits_for k (omega (arith, one, none, r, u)) in
            (waits.0, inside k waits.0 waits.2, ap not waits.1, waits.2)

        by : (b : Bool) → is_listed listed k ≡ b → is_listed listed k ≡ true
        by true e = e
        by false e = let r = stuck_is_recursive (length us) (UsesIn us) (λ x. not (is_listed listed x)) next k below (ap not e) in absurd (acyclic r.0 r.1)

    -- where as many are underway
    pub same_underway : (other : ℕ → ℕ) → ((k : ℕ) → other k ≡ underway k) → ArePlaced us listed ready waiting other
    same_underway other e = record { size = s.size; once = λ k. let o = s.once k in let p = e k in omega (arith, o, p); ready_met = s.ready_met; waiting_for = s.waiting_for }
