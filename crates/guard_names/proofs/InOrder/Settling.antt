-- What moves between the rows of the code when a definition is settled or listed.
use Rattle.std.proofs.Common.{◌≡◌, ◌≢◌, ◌⊎◌, inl, inr, ⊎_elim, ℕ, zero, suc, ◌+◌, ◌<◌, ◌≤◌, Bool, true, false, cond, ◌||◌, List, [], ◌∷◌, ◌++◌, length, map, get_or, set, refl, sym, ◌∙◌, ap, subst, arith, length-append, drop, add-one, drop-cons, length-drop}
use Rattle.std.specs.Prelude.{nat_eq, nat_lt, sum_by, All, IsTrue, replicate}
use Rattle.std.specs.List.Sorted.{IsPermutation}
use Rattle.std.specs.Ordering.{nat_cmp, is_lt}
use Rattle.std.specs.BinaryHeap.{IsUpperBound}
use Rattle.std.specs.declared.cmp.Ordering.TheVariants.{Less, Equal, Greater}
use Rattle.std.specs.declared.cmp.Reverse.{Reverse}
use Rattle.std.proofs.lemmas.Bool.{eqb-true, eq-eqb, ltb-false, cases_lt}
use Rattle.std.proofs.lemmas.List.{get_or-map, map-set, get_or-replicate, length-replicate, append-nil, append_assoc, length-set, get_or-set_same, get_or-set_other}
use Rattle.std.proofs.lemmas.List.Elements.{All-nil}
use Rattle.std.proofs.Math.ListN.{get_or-eq_default}
use Rattle.std.proofs.lemmas.Bool.Decides.{nat_tests}
use Rattle.std.proofs.lemmas.List.Folds.{list_any_at, list_any-append}
use Rattle.std.proofs.lemmas.Bool.Decides.{eqb_tells}
use Rattle.std.proofs.lemmas.List.Sums.{sum_by-cons, sum_by-set}
use Rattle.std.proofs.lemmas.List.Sorted.{sum_by_pushed, sum_by_popped}
use Rattle.std.proofs.lemmas.Grind.{get_or_default_zero}
use Rattle.guard_names.specs.declared.order.Waiting.{Waiting}
use Rattle.guard_names.specs.Order.{is_listed, IsNext, Follow}
use Rattle.guard_names.specs.inside.Queues.{once_at, used_by, AreInside, IsMet, IsMetBefore, IsWaitingFor, IsReleased, AreFlags, ArePlaced, times_in, times_waiting}
use Rattle.guard_names.specs.inside.QueueViews.{times_ready}
use Rattle.guard_names.proofs.InOrder.Chains.{or_true}
use Rattle.guard_names.proofs.InOrder.Queueing.{listed_last, settled_waiting, listed_one}

-- ---- rows

pub row_is : {X Y : Type 0} (f : X → List Y) (vs : List X) (number : ℕ) (v : X) → v ≡ get_or vs number v → number < length vs → f v ≡ get_or (map f vs) number []
row_is f vs number v e h = ap f e ∙ sym (get_or-map f vs number v [] h)

-- one more in a row
pub pushed_row : {X Y : Type 0} (f : X → List Y) (ws : List X) (i : ℕ) (old new : X) (y : Y) → i < length ws → old ≡ get_or ws i old → f new ≡ f old ++ y ∷ []
    → map f (set ws i new) ≡ set (map f ws) i (get_or (map f ws) i [] ++ y ∷ [])
pushed_row f ws i old new y h e is = map-set f ws i new ∙ ap (set (map f ws) i) (is ∙ ap (λ row. row ++ y ∷ []) (row_is f ws i old e h))

pub pushed_total : {X Y : Type 0} (f : X → List Y) (ws : List X) (i : ℕ) (old new : X) (y : Y) → i < length ws → old ≡ get_or ws i old → f new ≡ f old ++ y ∷ []
    → sum_by (λ v. length (f v)) (set ws i new) ≡ sum_by (λ v. length (f v)) ws + 1
pushed_total f ws i old new y h e is =
    let t = sum_by-set (λ v. length (f v)) ws i new old h in
    let a : length (f (get_or ws i old)) ≡ length (f old) = ap (λ v. length (f v)) (sym e) in
    let b : length (f new) ≡ length (f old) + 1 = ap length is ∙ length-append (f old) (y ∷ []) in
    omega (arith, t, a, b)

-- a row is taken out
pub taken_row : {X Y : Type 0} (f : X → List Y) (ws : List X) (i : ℕ) (new : X) → f new ≡ [] → map f (set ws i new) ≡ set (map f ws) i []
taken_row f ws i new is = map-set f ws i new ∙ ap (set (map f ws) i) is

pub taken_total : {X Y : Type 0} (f : X → List Y) (ws : List X) (i : ℕ) (old new : X) → i < length ws → old ≡ get_or ws i old → f new ≡ []
    → sum_by (λ v. length (f v)) (set ws i new) + length (f old) ≡ sum_by (λ v. length (f v)) ws
taken_total f ws i old new h e is =
    let t = sum_by-set (λ v. length (f v)) ws i new old h in
    let a : length (f (get_or ws i old)) ≡ length (f old) = ap (λ v. length (f v)) (sym e) in
    let b : length (f new) ≡ 0 = ap length is in
    omega (arith, t, a, b)

-- ---- places

pub place_of : (xs : List ℕ) (k : ℕ) → is_listed xs k ≡ true → (i : ℕ) × (i < length xs) × (get_or xs i 0 ≡ k)
place_of [] k h = absurd cc
place_of (x ∷ xs) k h =
    ⊎_elim (λ (same : nat_eq k x ≡ true). (0, omega arith, sym (eqb-true k x same)))
    (λ (rest : is_listed xs k ≡ true). let r = place_of xs k rest in (suc r.0, omega (arith, r.1), r.2)) (or_true (nat_eq k x) (is_listed xs k) h)

pub listed_at : (xs : List ℕ) (i : ℕ) → i < length xs → is_listed xs (get_or xs i 0) ≡ true
listed_at xs i h = list_any_at (nat_eq (get_or xs i 0)) xs i 0 h (eq-eqb (get_or xs i 0) (get_or xs i 0) refl)

module _ (us : List (List ℕ)) (flags : List Bool) (listed : List ℕ) (inside : AreInside us) (f : AreFlags us flags listed) (number : ℕ) (used : List ℕ) (used_is : used ≡ used_by us number) where
  pub used_inside : (u : ℕ) → IsTrue (is_listed used u) → u < length us
  used_inside u h = inside number u (subst (λ x. is_listed x u ≡ true) used_is h)

  -- the row of the one that is used at a place
  pub row_of : {X : Type 0} (rows : List X) (found : List ℕ) (place u : ℕ) → length rows ≡ length us → used ≡ found → place < length used → u ≡ get_or found place u
      → (u ≡ get_or used place 0) × (u < length rows)
  row_of rows found place u size same below is =
      let u_is : u ≡ get_or used place 0 = is ∙ ap (λ x. get_or x place u) (sym same) ∙ get_or_default_zero used place u below in
      (u_is, subst (λ n. u < n) (sym size) (subst (λ x. x < length us) (sym u_is) (used_inside (get_or used place 0) (listed_at used place below))))

  flag_tells : (i : ℕ) (b : Bool) → i < length used → get_or flags (get_or used i 0) false ≡ b → is_listed listed (get_or used i 0) ≡ b
  flag_tells i b h e = sym (f.says (get_or used i 0) (used_inside (get_or used i 0) (listed_at used i h))) ∙ e

  -- up to a place all are listed
  met_to : (from place : ℕ) → IsMetBefore us listed number from → place ≤ length used
      → ((i : ℕ) → from ≤ i → i < place → get_or flags (get_or used i 0) false ≡ true)
      → (i : ℕ) → i < place → is_listed listed (get_or used i 0) ≡ true
  met_to from place before h flagged i below = ⊎_elim
      (λ (l : i < from). subst (λ x. is_listed listed (get_or x i 0) ≡ true) (sym used_is) (before i l))
      (λ (g : from ≤ i). flag_tells i true (omega arith) (flagged i g below)) (cases_lt i from)

  pub waits_at : (from place : ℕ) → number < length us → IsMetBefore us listed number from → place < length used
      → get_or flags (get_or used place 0) false ≡ false
      → ((i : ℕ) → from ≤ i → i < place → get_or flags (get_or used i 0) false ≡ true)
      → IsWaitingFor us listed (get_or used place 0) (record { number = number; met = place })
  waits_at from place below before h found flagged = record {
    number = below;
    here = subst (λ x. place < length x) used_is h;
    is = ap (λ x. get_or x place 0) (sym used_is);
    met = λ i l. subst (λ x. is_listed listed (get_or x i 0) ≡ true) used_is (met_to from place before (omega arith) flagged i l);
    unlisted = flag_tells place false h found;
  }

  pub all_met : (from : ℕ) → IsMetBefore us listed number from
      → ((i : ℕ) → from ≤ i → i < length used → get_or flags (get_or used i 0) false ≡ true)
      → IsMet us listed number
  all_met from before flagged u h =
      let at = place_of used u (subst (λ x. is_listed x u ≡ true) (sym used_is) h) in
      subst (λ x. is_listed listed x ≡ true) at.2 (met_to from (length used) before (omega arith) flagged at.0 at.1)

  pub settles_waiting : (ready underway : ℕ → ℕ) (rows rows' : List (List Waiting)) (w : Waiting) (place u : ℕ) → w.number ≡ number → place < length used → u ≡ get_or used place 0
      → get_or flags (get_or used place 0) false ≡ false
      → ((i : ℕ) → w.met ≤ i → i < place → get_or flags (get_or used i 0) false ≡ true)
      → IsReleased us listed w → ArePlaced us listed ready rows (λ k. once_at w.number k + underway k)
      → rows' ≡ set rows u (get_or rows u [] ++ record { number = w.number; met = place } ∷ [])
      → ArePlaced us listed ready rows' underway
  settles_waiting ready underway rows rows' w place u n h u_is found flagged r s is =
      let here : u < length us = subst (λ x. x < length us) (sym u_is) (used_inside (get_or used place 0) (listed_at used place h)) in
      let waits : IsWaitingFor us listed u (record { number = w.number; met = place }) =
      rw (u_is, n) (waits_at w.met place (subst (λ x. x < length us) n r.number) (subst (λ x. IsMetBefore us listed x w.met) n r.met) h found flagged) in
      subst (λ x. ArePlaced us listed ready x underway) (sym is) (settled_waiting us listed ready underway rows u (record { number = w.number; met = place }) s here waits)

-- ---- the heap of those that are ready

pub one_more_ready : (old new : List (Reverse ℕ)) (r : Reverse ℕ) (k : ℕ) → IsPermutation (r ∷ old) new → times_ready new k ≡ once_at r.0 k + times_ready old k
one_more_ready old new r k p = sum_by_pushed (λ x. cond (nat_eq k x.0) 1 0) r old new p

pub one_less_ready : (old new : List (Reverse ℕ)) (r : Reverse ℕ) (k : ℕ) → IsPermutation old (r ∷ new) → times_ready new k + once_at r.0 k ≡ times_ready old k
one_less_ready old new r k p = sum_by_popped (λ x. cond (nat_eq k x.0) 1 0) r old new p

not_less : (l q : Bool) → is_lt (cond l Less (cond q Equal Greater)) ≡ false → l ≡ false
not_less true q h = absurd cc
not_less false q h = refl

at_least : (a k : ℕ) → is_lt (nat_cmp k a) ≡ false → a ≤ k
at_least a k h = ltb-false k a (not_less (nat_lt k a) (nat_eq k a) h)

-- the one that is popped is the least
pub least_popped : (rs : List (Reverse ℕ)) (r : Reverse ℕ) → IsUpperBound (λ x y. nat_cmp y.0 x.0) r rs → (k : ℕ) → 0 < times_ready rs k → r.0 ≤ k
least_popped [] r h k some = absurd (omega (arith, some))
least_popped (x ∷ rs) r h k some = by (nat_eq k x.0) refl (least_popped rs r h.1 k)
  where
    by : (b : Bool) → nat_eq k x.0 ≡ b → (0 < times_ready rs k → r.0 ≤ k) → r.0 ≤ k
    by true e rest = subst (λ y. r.0 ≤ y) (sym (eqb-true k x.0 e)) (at_least r.0 x.0 h.0)
    by false e rest =
        let s = sum_by-cons (λ y. cond (nat_eq k y.0) 1 0) x rs in
        let z : ◌≡◌ {A = ℕ} (cond (nat_eq k x.0) 1 0) 0 = rw e refl in
        rest (omega (arith, s, some, z))

-- ---- the order so far

pub follow_more : (count : ℕ) (uses : ℕ → ℕ → Type 0) (listed more : List ℕ) (a : ℕ) → Follow count uses listed more → IsNext count uses (listed ++ more) a → Follow count uses listed (more ++ a ∷ [])
follow_more count uses listed [] a f next = (subst (λ x. IsNext count uses x a) (append-nil listed) next, tt)
follow_more count uses listed (m ∷ more) a f next =
    (f.0, follow_more count uses (listed ++ m ∷ []) more a f.1 (subst (λ x. IsNext count uses x a) (sym (append_assoc listed (m ∷ []) more)) next))

or_none : (b : Bool) → (b || (false || false)) ≡ b
or_none true = refl
or_none false = refl

pub unchanged_listed : (listed : List ℕ) (a k : ℕ) → nat_eq k a ≡ false → is_listed (listed ++ a ∷ []) k ≡ is_listed listed k
unchanged_listed listed a k e = rw (list_any-append (nat_eq k) listed (a ∷ []), e) (or_none (is_listed listed k))

-- a flag more
pub flag_set : (us : List (List ℕ)) (flags : List Bool) (listed : List ℕ) (a : ℕ) → AreFlags us flags listed → a < length us → AreFlags us (set flags a true) (listed ++ a ∷ [])
flag_set us flags listed a f below = record {
  size = length-set flags a true ∙ f.size;
  says = λ k h. by k h (eqb_tells k a);
}
  where
    by : (k : ℕ) → k < length us → ((nat_eq k a ≡ true) × (k ≡ a)) ⊎ ((nat_eq k a ≡ false) × (k ≢ a)) → get_or (set flags a true) k false ≡ is_listed (listed ++ a ∷ []) k
    by k h (inr apart) = get_or-set_other flags a k true false apart.1 ∙ f.says k h ∙ sym (unchanged_listed listed a k apart.0)
    by k h (inl same) =
        let here : a < length flags = omega (arith, f.size, below) in
        subst (λ x. get_or (set flags a true) x false ≡ is_listed (listed ++ a ∷ []) x) (sym same.1) (get_or-set_same flags a true false here ∙ sym (listed_last listed a))

pub left_more : (a b c : ℕ) → b ≡ c + 1 → a + b ≡ a + c + 1
left_more a b c h = omega arith

-- ---- before anything is settled

-- once for each definition from a number on
abbrev pub from_on : ℕ → ℕ → ℕ → ℕ
from_on number count k = cond (nat_lt k number) 0 (cond (nat_lt k count) 1 0)

pub one_settled : (number count k : ℕ) → number < count → from_on number count k ≡ once_at number k + from_on (number + 1) count k
one_settled number count k h = grind (arith, nat_tests)

pub all_settled : (count k : ℕ) → from_on count count k ≡ 0
all_settled count k = grind (arith, nat_tests)

from_zero : (count k : ℕ) → from_on 0 count k ≡ cond (nat_lt k count) 1 0
from_zero count k = grind (arith, nat_tests)

none_waiting : (n k : ℕ) → times_in (replicate n []) k ≡ 0
none_waiting zero k = refl
none_waiting (suc n) k = let r : times_in (replicate n []) k ≡ 0 = none_waiting n k in rw (sum_by-cons (λ ws. times_waiting ws k) [] (replicate n [])) (omega (arith, r))

no_row : (n u : ℕ) → get_or {A = List Waiting} (replicate n []) u [] ≡ []
no_row n u = ⊎_elim (λ (l : u < n). get_or-replicate n u [] [] l) (λ (g : n ≤ u). get_or-eq_default (replicate n []) [] (let e = length-replicate {A = List Waiting} n [] in omega (arith, e, g))) (cases_lt u n)

pub none_settled : (us : List (List ℕ)) (rows : List (List Waiting)) (ready : ℕ → ℕ) → rows ≡ replicate (length us) [] → ((k : ℕ) → ready k ≡ 0) → ArePlaced us [] ready rows (from_on 0 (length us))
none_settled us rows ready e none = subst (λ x. ArePlaced us [] ready x (from_on 0 (length us))) (sym e) (record {
  size = length-replicate (length us) [];
  once = λ k. let a = none k in let b = none_waiting (length us) k in let e' = from_zero (length us) k in omega (arith, a, b, e');
  ready_met = λ k h. absurd (let a = none k in omega (arith, a, h));
  waiting_for = λ u. subst (All (IsWaitingFor us [] u)) (sym (no_row (length us) u)) (All-nil (IsWaitingFor us [] u));
})

pub no_flags : (us : List (List ℕ)) (flags : List Bool) → flags ≡ replicate (length us) false → AreFlags us flags []
no_flags us flags e = record {
  size = ap length e ∙ length-replicate (length us) false;
  says = λ k h. ap (λ x. get_or x k false) e ∙ get_or-replicate (length us) k false false h;
}

-- ---- one definition is listed

-- those that waited for it are on the way
pub begins : (us : List (List ℕ)) (listed listed' : List ℕ) (ready : ℕ → ℕ) (rows rows' : List (List Waiting)) (a : ℕ) (released : List Waiting)
    → listed' ≡ listed ++ a ∷ [] → rows' ≡ set rows a [] → released ≡ get_or rows a [] → ArePlaced us listed ready rows (once_at a) → a < length us
    → ArePlaced us listed' ready rows' (times_waiting released)
begins us listed listed' ready rows rows' a released e f g s h = rw (e, f, g) (listed_one us listed ready rows a s h)

-- the first of those that are on the way
pub first_released : (ws : List Waiting) (i k : ℕ) (d : Waiting) → i < length ws → times_waiting (drop i ws) k ≡ once_at (get_or ws i d).number k + times_waiting (drop (i + 1) ws) k
first_released ws i k d h = rw (add-one, drop-cons ws i d h, sum_by-cons (λ w. cond (nat_eq k w.number) 1 0) (get_or ws i d) (drop (suc i) ws)) refl

pub popped_was_ready : (old new : List (Reverse ℕ)) (r : Reverse ℕ) → IsPermutation old (r ∷ new) → 0 < times_ready old r.0
popped_was_ready old new r p =
    let e = one_less_ready old new r r.0 p in
    let one : ◌≡◌ {A = ℕ} (once_at r.0 r.0) 1 = rw (eq-eqb r.0 r.0 refl) refl in
    omega (arith, e, one)

pub left_same : (a b b' n m : ℕ) → b' + n ≡ b → m ≡ n → a + b' + m ≡ a + b
left_same a b b' n m h e = omega arith

pub left_one_less : (a a' b : ℕ) (ws : List Waiting) (i : ℕ) → a' ≡ a + 1 → a + length (drop i ws) ≡ b → i < length ws → a' + length (drop (i + 1) ws) ≡ b
left_one_less a a' b ws i e h below = let d = length-drop i ws in let d' = length-drop (i + 1) ws in omega (arith, d, d', e, h, below)

pub none_left : (a b n m : ℕ) → a + n ≡ b + m → n ≡ 0 → a ≡ b + m
none_left a b n m h e = omega arith
