-- Insertion by a test, and that two lists in order with the same ties are one.
use Rattle.std.proofs.Common.{◌≡◌, ◌⊎◌, inl, inr, ℕ, suc, ◌+◌, ◌<◌, Bool, true, false, cond, not, ◌&&◌, List, [], ◌∷◌, length, get_or, map, refl, sym, ap, ◌∙◌, arith}
use Rattle.std.specs.Prelude.{filter}
use Rattle.std.specs.Cmp.{IsStrictWeakOrder}
use Rattle.std.specs.List.Sorted.{ties, IsSortedBy, IsStableBy}
use Rattle.std.proofs.lemmas.List.Sorted.{sorted_far}

abbrev pub insert_by : {X : Type 0} → (X → X → Bool) → X → List X → List X
insert_by lt e [] = e ∷ []
insert_by lt e (f ∷ fs) = cond (lt f e) (f ∷ insert_by lt e fs) (e ∷ f ∷ fs)

abbrev pub sorted_by : {X : Type 0} → (X → X → Bool) → List X → List X
sorted_by lt [] = []
sorted_by lt (e ∷ es) = insert_by lt e (sorted_by lt es)

-- none of them is below x
abbrev pub Follow : {X : Type 0} → (X → X → Bool) → X → List X → Type 0
Follow lt x [] = Unit {0}
Follow lt x (y ∷ ys) = (lt y x ≡ false) × Follow lt x ys

abbrev pub Ascend : {X : Type 0} → (X → X → Bool) → List X → Type 0
Ascend lt [] = Unit {0}
Ascend lt (x ∷ xs) = Follow lt x xs × Ascend lt xs

-- ---- booleans

decide : (b : Bool) → (b ≡ true) ⊎ (b ≡ false)
decide true = inl refl
decide false = inr refl

contradicts : {P : Type 0} (b : Bool) → b ≡ true → b ≡ false → P
contradicts true e f = absurd cc
contradicts false e f = absurd cc

pub both_not : (a b : Bool) → (not a && not b) ≡ true → (a ≡ false) × (b ≡ false)
both_not true b e = absurd cc
both_not false true e = absurd cc
both_not false false e = (refl, refl)

not_both : (a b : Bool) → a ≡ false → b ≡ false → (not a && not b) ≡ true
not_both a b e f = rw (e, f) refl

first_fails : (a b : Bool) → a ≡ true → (not a && not b) ≡ false
first_fails a b e = rw e refl

heads : {X : Type 0} (x y : X) (xs ys : List X) → ◌≡◌ {A = List X} (x ∷ xs) (y ∷ ys) → x ≡ y
heads x y xs ys e = cc

tails : {X : Type 0} (x y : X) (xs ys : List X) → ◌≡◌ {A = List X} (x ∷ xs) (y ∷ ys) → xs ≡ ys
tails x y xs ys e = cc

-- ---- from neighbours to all

from_places : {X : Type 0} (lt : X → X → Bool) (x : X) (xs : List X) → ((j : ℕ) → j < length xs → lt (get_or xs j x) x ≡ false) → Follow lt x xs
from_places lt x [] h = tt
from_places lt x (y ∷ ys) h = (h 0 (omega arith), from_places lt x ys (λ j lt_j. h (suc j) (omega (arith, lt_j))))

neighbours_after : {X : Type 0} (lt : X → X → Bool) (x : X) (xs : List X) → IsSortedBy lt (x ∷ xs) → IsSortedBy lt xs
neighbours_after lt x xs up = λ k d low high.
    let next : suc k + 1 ≡ suc (k + 1) = omega arith in
    let h : lt (get_or (x ∷ xs) (suc k + 1) d) (get_or xs k d) ≡ false = up (suc k) d (omega arith) (omega (arith, high)) in
    ap (λ (n : ℕ). lt (get_or (x ∷ xs) n d) (get_or xs k d)) (sym next) ∙ h

pub in_order : {X : Type 0} (lt : X → X → Bool) → IsStrictWeakOrder lt → (xs : List X) → IsSortedBy lt xs → Ascend lt xs
in_order lt o [] up = tt
in_order lt o (x ∷ xs) up = (from_places lt x xs (λ j below. sorted_far lt o (x ∷ xs) up 0 (suc j) x (omega arith) (omega (arith, below))), in_order lt o xs (neighbours_after lt x xs up))

-- ---- one list

irreflexive : {X : Type 0} (lt : X → X → Bool) → IsStrictWeakOrder lt → (x : X) → lt x x ≡ false
irreflexive lt o x = elim (decide (lt x x)) [
  | inl e ↦ o.one_way x x e
  | inr e ↦ e
]

ties_itself : {X : Type 0} (lt : X → X → Bool) → IsStrictWeakOrder lt → (x : X) → ties lt x x ≡ true
ties_itself lt o x = not_both (lt x x) (lt x x) (irreflexive lt o x) (irreflexive lt o x)

-- what is below y ties with nothing that is not
ties_above : {X : Type 0} (lt : X → X → Bool) → IsStrictWeakOrder lt → (z y w : X) → lt z y ≡ true → lt w y ≡ false → ties lt z w ≡ false
ties_above lt o z y w below e = elim (decide (ties lt z w)) [
  | inl t ↦ contradicts (lt z y) below (o.chain z w y (both_not (lt z w) (lt w z) t).0 e)
  | inr t ↦ t
]

none_tie : {X : Type 0} (lt : X → X → Bool) → IsStrictWeakOrder lt → (z y : X) (ys : List X) → lt z y ≡ true → Follow lt y ys → filter (ties lt z) ys ≡ []
none_tie lt o z y [] below up = refl
none_tie lt o z y (w ∷ ws) below up = rw (ties_above lt o z y w below up.0) (none_tie lt o z y ws below up.1)

-- a list that has what ties with z has nothing that only comes after it
not_below : {X : Type 0} (lt : X → X → Bool) → IsStrictWeakOrder lt → (z y : X) (zs ys : List X) → Follow lt y ys → filter (ties lt z) (y ∷ ys) ≡ filter (ties lt z) (z ∷ zs) → lt z y ≡ false
not_below {X} lt o z y zs ys up same = elim (decide (lt z y)) [
  | inl below ↦
      let none : filter (ties lt z) (y ∷ ys) ≡ [] = none_tie lt o z y (y ∷ ys) below (irreflexive lt o y, up) in
      let some : filter (ties lt z) (z ∷ zs) ≡ z ∷ filter (ties lt z) zs = rw (ties_itself lt o z) refl in
      let e : ◌≡◌ {A = List X} [] (z ∷ filter (ties lt z) zs) = sym none ∙ same ∙ some in
      absurd cc
  | inr e ↦ e
]

after : {X : Type 0} (b : Bool) (y : X) (ys zs : List X) → cond b (y ∷ ys) ys ≡ cond b (y ∷ zs) zs → ys ≡ zs
after true y ys zs e = tails y y ys zs e
after false y ys zs e = e

nothing_else : {X : Type 0} (lt : X → X → Bool) → IsStrictWeakOrder lt → (y : X) (ys : List X) → [] ≡ filter (ties lt y) (y ∷ ys) → ⊥
nothing_else {X} lt o y ys e =
    let some : filter (ties lt y) (y ∷ ys) ≡ y ∷ filter (ties lt y) ys = rw (ties_itself lt o y) refl in
    let f : ◌≡◌ {A = List X} [] (y ∷ filter (ties lt y) ys) = e ∙ some in
    absurd cc

pub one_list : {X : Type 0} (lt : X → X → Bool) → IsStrictWeakOrder lt → (ys zs : List X) → Ascend lt ys → Ascend lt zs → ((x : X) → filter (ties lt x) ys ≡ filter (ties lt x) zs) → ys ≡ zs
one_list lt o [] [] up down same = refl
one_list lt o [] (z ∷ zs) up down same = absurd (nothing_else lt o z zs (same z))
one_list lt o (y ∷ ys) [] up down same = absurd (nothing_else lt o y ys (sym (same y)))
one_list {X} lt o (y ∷ ys) (z ∷ zs) up down same =
    let one : lt z y ≡ false = not_below lt o z y zs ys up.0 (same z) in
    let other : lt y z ≡ false = not_below lt o y z ys zs down.0 (sym (same y)) in
    let tie : ties lt y z ≡ true = not_both (lt y z) (lt z y) other one in
    let mine : filter (ties lt y) (y ∷ ys) ≡ y ∷ filter (ties lt y) ys = rw (ties_itself lt o y) refl in
    let theirs : filter (ties lt y) (z ∷ zs) ≡ z ∷ filter (ties lt y) zs = rw tie refl in
    let first : y ≡ z = heads y z (filter (ties lt y) ys) (filter (ties lt y) zs) (sym mine ∙ same y ∙ theirs) in
    let rest : ys ≡ zs = one_list lt o ys zs up.1 down.1 (λ x. after (ties lt x y) y (filter (ties lt x) ys) (filter (ties lt x) zs)
    (same x ∙ ap (λ (w : X). filter (ties lt x) (w ∷ zs)) (sym first))) in
    ap (λ (w : X). w ∷ ys) first ∙ ap (λ (ws : List X). z ∷ ws) rest

-- ---- insertion

follow_chosen : {X : Type 0} (lt : X → X → Bool) (b : Bool) (f e g : X) (fs : List X) → lt e f ≡ false → lt g f ≡ false → Follow lt f fs → Follow lt f (insert_by lt e fs) → Follow lt f (cond b (g ∷ insert_by lt e fs) (e ∷ g ∷ fs))
follow_chosen lt true f e g fs h k all more = (k, more)
follow_chosen lt false f e g fs h k all more = (h, (k, all))

follow_inserted : {X : Type 0} (lt : X → X → Bool) (f e : X) (fs : List X) → lt e f ≡ false → Follow lt f fs → Follow lt f (insert_by lt e fs)
follow_inserted lt f e [] h all = (h, tt)
follow_inserted lt f e (g ∷ fs) h all = follow_chosen lt (lt g e) f e g fs h all.0 all.1 (follow_inserted lt f e fs h all.1)

follow_chain : {X : Type 0} (lt : X → X → Bool) → IsStrictWeakOrder lt → (e f : X) (fs : List X) → lt f e ≡ false → Follow lt f fs → Follow lt e fs
follow_chain lt o e f [] h all = tt
follow_chain lt o e f (g ∷ fs) h all = (o.chain g f e all.0 h, follow_chain lt o e f fs h all.1)

ascend_inserted : {X : Type 0} (lt : X → X → Bool) → IsStrictWeakOrder lt → (e : X) (fs : List X) → Ascend lt fs → Ascend lt (insert_by lt e fs)
ascend_inserted lt o e [] up = (tt, tt)
ascend_inserted lt o e (f ∷ fs) up = elim (decide (lt f e)) [
  | inl below ↦ rw below (follow_inserted lt f e fs (o.one_way f e below) up.0, ascend_inserted lt o e fs up.1)
  | inr at ↦ rw at ((at, follow_chain lt o e f fs at up.0), up)
]

pub ascend_sorted : {X : Type 0} (lt : X → X → Bool) → IsStrictWeakOrder lt → (xs : List X) → Ascend lt (sorted_by lt xs)
ascend_sorted lt o [] = tt
ascend_sorted lt o (x ∷ xs) = ascend_inserted lt o x (sorted_by lt xs) (ascend_sorted lt o xs)

-- two neighbours, of which not both pass
passing : {X : Type 0} (p q : Bool) (e f : X) (fs : List X) → (p ≡ true → q ≡ true → ⊥) → cond q (f ∷ cond p (e ∷ fs) fs) (cond p (e ∷ fs) fs) ≡ cond p (e ∷ cond q (f ∷ fs) fs) (cond q (f ∷ fs) fs)
passing true true e f fs h = absurd (h refl refl)
passing true false e f fs h = refl
passing false q e f fs h = refl

kept_inserted : {X : Type 0} (lt : X → X → Bool) → IsStrictWeakOrder lt → (x e : X) (fs : List X) → filter (ties lt x) (insert_by lt e fs) ≡ filter (ties lt x) (e ∷ fs)
kept_inserted lt o x e [] = refl
kept_inserted {X} lt o x e (f ∷ fs) = elim (decide (lt f e)) [
  | inl below ↦ rw below (
      ap (λ (ws : List X). cond (ties lt x f) (f ∷ ws) ws) (kept_inserted lt o x e fs)
      ∙ passing (ties lt x e) (ties lt x f) e f (filter (ties lt x) fs) (λ p q.
      contradicts (lt f e) below (o.chain f x e (both_not (lt x f) (lt f x) q).1 (both_not (lt x e) (lt e x) p).0)))
  | inr at ↦ rw at refl
]

pub kept_sorted : {X : Type 0} (lt : X → X → Bool) → IsStrictWeakOrder lt → (x : X) (xs : List X) → filter (ties lt x) (sorted_by lt xs) ≡ filter (ties lt x) xs
kept_sorted lt o x [] = refl
kept_sorted {X} lt o x (y ∷ ys) = kept_inserted lt o x y (sorted_by lt ys) ∙ ap (λ (ws : List X). cond (ties lt x y) (y ∷ ws) ws) (kept_sorted lt o x ys)

-- what a stable sort answers
pub sort_is : {X : Type 0} (lt : X → X → Bool) → IsStrictWeakOrder lt → (xs ys : List X) → IsSortedBy lt ys → IsStableBy lt xs ys → ys ≡ sorted_by lt xs
sort_is lt o xs ys up stable = one_list lt o ys (sorted_by lt xs) (in_order lt o ys up) (ascend_sorted lt o xs) (λ x. stable x ∙ sym (kept_sorted lt o x xs))

-- ---- seen by a key

insert_step : {X Y : Type 0} (f : X → Y) (lt : Y → Y → Bool) (b : Bool) (e x : X) (xs : List X) → map f (insert_by (λ x y. lt (f x) (f y)) e xs) ≡ insert_by lt (f e) (map f xs)
    → map f (cond b (x ∷ insert_by (λ x y. lt (f x) (f y)) e xs) (e ∷ x ∷ xs)) ≡ cond b (f x ∷ insert_by lt (f e) (map f xs)) (f e ∷ f x ∷ map f xs)
insert_step {X} {Y} f lt true e x xs h = ap (λ (ys : List Y). f x ∷ ys) h
insert_step f lt false e x xs h = refl

insert_map : {X Y : Type 0} (f : X → Y) (lt : Y → Y → Bool) (e : X) (xs : List X) → map f (insert_by (λ x y. lt (f x) (f y)) e xs) ≡ insert_by lt (f e) (map f xs)
insert_map f lt e [] = refl
insert_map f lt e (x ∷ xs) = insert_step f lt (lt (f x) (f e)) e x xs (insert_map f lt e xs)

pub sort_map : {X Y : Type 0} (f : X → Y) (lt : Y → Y → Bool) (xs : List X) → map f (sorted_by (λ x y. lt (f x) (f y)) xs) ≡ sorted_by lt (map f xs)
sort_map f lt [] = refl
sort_map f lt (x ∷ xs) = insert_map f lt x (sorted_by (λ x y. lt (f x) (f y)) xs) ∙ ap (insert_by lt (f x)) (sort_map f lt xs)
