-- Lists that a search keeps: uses that aren't followed yet, the least of some numbers, the last element.
use Rattle.std.proofs.Common.{◌≡◌, ◌⊎◌, inl, inr, ⊎_elim, ℕ, zero, suc, ◌+◌, ◌-◌, ◌<◌, ◌≤◌, Bool, true, false, cond, List, [], ◌∷◌, ◌++◌, length, map, get_or, set, take, Option, Some, None, Contains, refl, sym, ◌∙◌, ap, arith, length-append}
use Rattle.std.specs.Prelude.{nat_lt, fold}
use Rattle.std.specs.List.{AllPairs, slice_get}
use Rattle.std.proofs.lemmas.Bool.{cases_lt, ltb-true, ltb-false}
use Rattle.std.proofs.lemmas.List.{get_or_append_left, get_or-append_right, length-map, length-take-le, take_more, take_all, take-append-le}
use Rattle.std.proofs.lemmas.List.Elements.{Contains-get_or, Contains-append_cases}
use Rattle.guard_names.specs.declared.recursion.Pending.{Pending}
use Rattle.guard_names.specs.inside.Searches.{lesser}

-- ---- uses that aren't followed yet

pub pending_grows : (pending more : List Pending) (len : ℕ) → AllPairs (λ a b. a.place ≤ b.place) pending → ((e : Pending) → Contains pending e → e.place < len) → ((e : Pending) → Contains more e → e.place ≡ len)
    → AllPairs (λ a b. a.place ≤ b.place) (pending ++ more)
pending_grows pending more len up before at i j d l h = ⊎_elim
    (λ (b : j < length pending). let bi : i < length pending = omega arith in rw (get_or_append_left pending more d i bi, get_or_append_left pending more d j b) (up i j d l b))
    (λ (g : length pending ≤ j).
    let size = length-append pending more in
    let lj : j - length pending < length more = omega (arith, size, h, g) in
    let pj : (get_or (pending ++ more) j d).place ≡ len = ap (λ e. e.place) (get_or-append_right pending more (length pending) j d refl g) ∙ at (get_or more (j - length pending) d) (Contains-get_or more (j - length pending) d lj) in
    let li : i < length (pending ++ more) = omega (arith, l, h) in
    let pi : (get_or (pending ++ more) i d).place ≤ len = ⊎_elim
    (λ (old : Contains pending (get_or (pending ++ more) i d)). let p = before (get_or (pending ++ more) i d) old in omega (arith, p))
    (λ (is : Contains more (get_or (pending ++ more) i d)). let p = at (get_or (pending ++ more) i d) is in omega (arith, p)) (Contains-append_cases pending more (get_or (pending ++ more) i d) (Contains-get_or (pending ++ more) i d li)) in
    omega (arith, pj, pi))
    (cases_lt j (length pending))

-- where the last one is before a place, all are
pub pending_before : (pending : List Pending) (last : Pending) (start : ℕ) → last ≡ get_or pending (length pending - 1) last → AllPairs (λ a b. a.place ≤ b.place) pending → last.place < start → (e : Pending) → Contains pending e → e.place < start
pending_before pending last start last_is up h e (k, l, is) = ⊎_elim
    (λ (b : k < length pending - 1).
    let r = up k (length pending - 1) last b (omega (arith, l)) in
    let p : (get_or pending k last).place ≡ e.place = ap (λ x. x.place) (same_element pending k l last e ∙ is) in
    let q : (get_or pending (length pending - 1) last).place ≡ last.place = ap (λ x. x.place) (sym last_is) in
    omega (arith, r, p, q, h))
    (λ (g : length pending - 1 ≤ k).
    let ke : k ≡ length pending - 1 = omega (arith, l, g) in
    let p : e.place ≡ last.place = ap (λ x. x.place) (sym is ∙ same_element pending k l e last ∙ ap (λ n. get_or pending n last) ke ∙ sym last_is) in
    omega (arith, p, h))
    (cases_lt k (length pending - 1))
  where
    same_element : (xs : List Pending) (k : ℕ) → k < length xs → (d e : Pending) → get_or xs k d ≡ get_or xs k e
    same_element [] k l d e = absurd (omega (arith, l))
    same_element (x ∷ xs) zero l d e = refl
    same_element (x ∷ xs) (suc k) l d e = same_element xs k (omega (arith, l)) d e

pub pending_more : (pending pending' : List Pending) (place : ℕ) (row : List ℕ) → pending' ≡ pending ++ map (λ used. record { place = place; used = used }) row → length pending' ≡ length pending + length row
pending_more pending pending' place row e =
    let a = length-append pending (map (λ used. record { place = place; used = used }) row) in
    let b = length-map {B = Pending} row (λ used. record { place = place; used = used }) in
    let c = ap length e in
    omega (arith, a, b, c)

-- ---- the least

lesser_from_one : (first : Option ℕ) (x k : ℕ) → lesser first x ≡ Some k → (first ≡ Some k) ⊎ (x ≡ k)
lesser_from_one None x k h = inr cc
lesser_from_one (Some m) x k h = by (nat_lt x m) h
  where
    by : (b : Bool) → cond b (Some x) (Some m) ≡ Some k → (Some m ≡ Some k) ⊎ (x ≡ k)
    by true e = inr cc
    by false e = inl e

lesser_at : (first : Option ℕ) (x : ℕ) → (least : ℕ) × (lesser first x ≡ Some least) × (least ≤ x)
lesser_at None x = (x, refl, omega arith)
lesser_at (Some m) x = by (nat_lt x m) refl
  where
    by : (b : Bool) → nat_lt x m ≡ b → (least : ℕ) × (cond b (Some x) (Some m) ≡ Some least) × (least ≤ x)
    by true e = (x, refl, omega arith)
    by false e = (m, refl, omega (arith, ltb-false x m e))

lesser_older_one : (first : Option ℕ) (x k : ℕ) → first ≡ Some k → (least : ℕ) × (lesser first x ≡ Some least) × (least ≤ k)
lesser_older_one None x k h = absurd cc
lesser_older_one (Some m) x k h = by (nat_lt x m) refl (same_some h)
  where
    same_some : Some m ≡ Some k → m ≡ k
    same_some e = cc

    by : (b : Bool) → nat_lt x m ≡ b → m ≡ k → (least : ℕ) × (cond b (Some x) (Some m) ≡ Some least) × (least ≤ k)
    by true e s = (x, refl, omega (arith, ltb-true x m e, s))
    by false e s = (m, refl, omega (arith, s))

pub lesser_from : (xs : List ℕ) (first : Option ℕ) (k : ℕ) → fold lesser first xs ≡ Some k → (first ≡ Some k) ⊎ ((i : ℕ) × (i < length xs) × (get_or xs i 0 ≡ k))
lesser_from [] first k h = inl h
lesser_from (x ∷ xs) first k h = ⊎_elim
    (λ (e : lesser first x ≡ Some k). ⊎_elim (λ (o : first ≡ Some k). inl o) (λ (s : x ≡ k). inr (0, omega arith, s)) (lesser_from_one first x k e))
    (λ r. inr (suc r.0, omega (arith, r.1), r.2)) (lesser_from xs (lesser first x) k h)

pub lesser_older : (xs : List ℕ) (first : Option ℕ) (k : ℕ) → first ≡ Some k → (least : ℕ) × (fold lesser first xs ≡ Some least) × (least ≤ k)
lesser_older [] first k h = (k, h, omega arith)
lesser_older (x ∷ xs) first k h =
    let a = lesser_older_one first x k h in
    let b = lesser_older xs (lesser first x) a.0 a.1 in
    (b.0, b.1, omega (arith, a.2, b.2))

pub lesser_newer : (xs : List ℕ) (first : Option ℕ) (i : ℕ) → i < length xs → (least : ℕ) × (fold lesser first xs ≡ Some least) × (least ≤ get_or xs i 0)
lesser_newer [] first i h = absurd (omega (arith, h))
lesser_newer (x ∷ xs) first zero h =
    let a = lesser_at first x in
    let b = lesser_older xs (lesser first x) a.0 a.1 in
    (b.0, b.1, omega (arith, a.2, b.2))
lesser_newer (x ∷ xs) first (suc i) h = lesser_newer xs (lesser first x) i (omega (arith, h))

-- ---- the last element

pub last_split : {X : Type 0} (xs : List X) (x : X) → Some x ≡ slice_get xs (length xs - 1) → xs ≡ take (length xs - 1) xs ++ x ∷ []
last_split {X} [] x h = no_some h
  where
    no_some : {P : Type 0} → Some x ≡ None → P
    no_some e = absurd cc
last_split {X} (y ∷ []) x h = same_some h
  where
    same_some : Some x ≡ Some y → y ∷ [] ≡ x ∷ []
    same_some e = cc
last_split {X} (y ∷ z ∷ zs) x h =
    let e : length (y ∷ z ∷ zs) - 1 ≡ suc (length (z ∷ zs) - 1) = omega arith in
    let r = last_split (z ∷ zs) x (h ∙ ap (slice_get (y ∷ z ∷ zs)) e) in
    ap (λ w. y ∷ w) r ∙ ap (λ n. take n (y ∷ z ∷ zs) ++ x ∷ []) (sym e)

pub last_element : {X : Type 0} (xs : List X) (x : X) → Some x ≡ slice_get xs (length xs - 1) → x ≡ get_or xs (length xs - 1) x
last_element xs x h = by xs (length xs - 1) h
  where
    by : (ys : List _) (n : ℕ) → Some x ≡ slice_get ys n → x ≡ get_or ys n x
    by [] n e = refl
    by (y ∷ ys) zero e = cc
    by (y ∷ ys) (suc n) e = by ys n e

pub rest_is : {X : Type 0} (xs rest : List X) (x : X) (n : ℕ) → xs ≡ rest ++ x ∷ [] → n ≡ length xs → take (n - 1) xs ≡ rest
rest_is xs rest x n e f =
    let size : length xs ≡ length rest + 1 = ap length e ∙ length-append rest (x ∷ []) in
    let m : n - 1 ≡ length rest = omega (arith, size, f) in
    ap (λ k. take k xs) m ∙ ap (take (length rest)) e ∙ take-append-le (length rest) rest (x ∷ []) (omega arith) ∙ take_all (length rest) rest (omega arith)

pub any_default : {X : Type 0} (xs : List X) (i : ℕ) (d e : X) → i < length xs → get_or xs i d ≡ get_or xs i e
any_default [] i d e h = absurd (omega (arith, h))
any_default (x ∷ xs) zero d e h = refl
any_default (x ∷ xs) (suc i) d e h = any_default xs i d e (omega (arith, h))

set_last : {X : Type 0} (xs : List X) (p x : X) (n : ℕ) → length xs ≡ n → set (xs ++ p ∷ []) n x ≡ xs ++ x ∷ []
set_last [] p x zero e = refl
set_last [] p x (suc n) e = absurd (omega (arith, e))
set_last (y ∷ ys) p x zero e = absurd (omega (arith, e))
set_last (y ∷ ys) p x (suc n) e = ap (λ z. y ∷ z) (set_last ys p x n (omega (arith, e)))

pub cut_and_set : {X : Type 0} (xs cut : List X) (last : ℕ) (x : X) → last < length xs → cut ≡ take (last + 1) xs → set cut last x ≡ take last xs ++ x ∷ []
cut_and_set xs cut last x h e =
    ap (λ y. set y last x) (e ∙ take_more xs last x h) ∙ set_last (take last xs) (get_or xs last x) x last (length-take-le last xs (omega (arith, h)))
