-- From the lanes of a load to its octets: which of them lie in none of some ranges.
use Rattle.std.proofs.Common.{◌≡◌, ℕ, ◌+◌, ◌*◌, ◌%◌, ◌^◌, ◌≤◌, nat_eq, leb, ltb, eqb, Bool, true, false, cond, not, ◌&&◌, ◌||◌, List, [], ◌∷◌, ◌++◌, map, length, replicate, bit_and, bit_or, refl, sym, ap, ap₂, ◌∙◌, arith, inl, inr}
use Rattle.std.proofs.lemmas.Bool.{cases_eq, cases_lt, eq-eqb, ne_eqb, lt-ltb, le-ltb, le-leb, lt-leb, cond-true}
use Rattle.std.proofs.lemmas.Simd.{mask_l-mod, zip2_splat, zip2_splat_left, zip2_of_maps}
use Rattle.std.proofs.lemmas.List.{length-map}
use Rattle.std.proofs.lemmas.List.Folds.{list_any-append}
use Rattle.std.specs.List.{list_all}
use Rattle.std.specs.Int.{is_in_range}
use lib.Lanes.{zip2, mask_l, top}
use Rattle.guard_eval.specs.Elements.{is_in_some}

-- the lane of an octet: all ones where it lies in none of the ranges
abbrev pub outside : List (ℕ × ℕ) → ℕ → ℕ
outside rs x = cond (is_in_some rs x) 0 255

same_each : (f g : ℕ → ℕ) → ((x : ℕ) → f x ≡ g x) → (xs : List ℕ) → map f xs ≡ map g xs
same_each f g h [] = refl
same_each f g h (x ∷ xs) = ap₂ (λ (y : ℕ) (ys : List ℕ). y ∷ ys) (h x) (same_each f g h xs)

-- no range yet
pub none_yet : (xs : List ℕ) → zip2 (λ a b. cond (eqb a b) 255 0) xs xs ≡ map (outside []) xs
none_yet [] = refl
none_yet (x ∷ xs) = ap₂ (λ (y : ℕ) (ys : List ℕ). y ∷ ys) (cond-true (eqb x x) 255 0 (eq-eqb x x refl)) (none_yet xs)

opposite : (a b : ℕ) → leb a b ≡ not (ltb b a)
opposite a b = elim (cases_lt b a) [
  | inl less ↦ lt-leb a b less ∙ sym (ap not (lt-ltb b a less))
  | inr more ↦ le-leb a b more ∙ sym (ap not (le-ltb b a more))
]

by_tests : (b p q : Bool) → bit_and (cond b 0 255) (bit_or (cond p 255 0) (cond q 255 0)) ≡ cond (b || ((not p && not q) || false)) 0 255
by_tests true true true = refl
by_tests true true false = refl
by_tests true false true = refl
by_tests true false false = refl
by_tests false true true = refl
by_tests false true false = refl
by_tests false false true = refl
by_tests false false false = refl

one_more : (rs : List (ℕ × ℕ)) (r : ℕ × ℕ) (x : ℕ)
    → bit_and (outside rs x) (bit_or (cond (ltb x r.0) 255 0) (cond (ltb r.1 x) 255 0)) ≡ outside (rs ++ r ∷ []) x
one_more rs r x =
    by_tests (is_in_some rs x) (ltb x r.0) (ltb r.1 x)
    ∙ sym (ap (λ b. cond b 0 255) (list_any-append (λ r. is_in_range r.0 r.1 x) rs (r ∷ [])
    ∙ ap₂ (λ p q. is_in_some rs x || ((p && q) || false)) (opposite r.0 x) (opposite x r.1)))

-- one range more
pub with_range : (rs : List (ℕ × ℕ)) (r : ℕ × ℕ) (xs os : List ℕ) (n : ℕ) → length xs ≡ n → os ≡ map (outside rs) xs
    → zip2 bit_and os (zip2 bit_or (zip2 (λ a b. cond (ltb a b) 255 0) xs (replicate n r.0)) (zip2 (λ a b. cond (ltb a b) 255 0) (replicate n r.1) xs))
    ≡ map (outside (rs ++ r ∷ [])) xs
with_range rs r xs os n long e =
    zip2_of_maps bit_and (outside rs) (λ x. bit_or (cond (ltb x r.0) 255 0) (cond (ltb r.1 x) 255 0)) xs e
    (zip2_of_maps bit_or (λ x. cond (ltb x r.0) 255 0) (λ x. cond (ltb r.1 x) 255 0) xs
    (zip2_splat (λ (a b : ℕ). cond (ltb a b) 255 0) xs n r.0 long)
    (zip2_splat_left (λ (a b : ℕ). cond (ltb a b) 255 0) r.1 n xs long))
    ∙ same_each _ _ (one_more rs r) xs

top_outside : (b : Bool) → top 7 (cond b 0 255) ≡ not b
top_outside true = refl
top_outside false = refl

tops : (rs : List (ℕ × ℕ)) (xs : List ℕ) → map (top 7) (map (outside rs) xs) ≡ map (λ x. not (is_in_some rs x)) xs
tops rs [] = refl
tops rs (x ∷ xs) = ap₂ (λ (y : Bool) (ys : List Bool). y ∷ ys) (top_outside (is_in_some rs x)) (tops rs xs)

twice : (n : ℕ) → nat_eq (2 * n) 0 ≡ nat_eq n 0
twice n = elim (cases_eq n 0) [
  | inl none ↦ eq-eqb (2 * n) 0 (omega (arith, none)) ∙ sym (eq-eqb n 0 none)
  | inr some ↦ ne_eqb (2 * n) 0 (λ e. some (omega (arith, e))) ∙ sym (ne_eqb n 0 some)
]

mask_step : (b : Bool) (n : ℕ) → nat_eq (cond (not b) 1 0 + 2 * n) 0 ≡ (b && nat_eq n 0)
mask_step true n = ap (λ m. nat_eq m 0) (let e : 0 + 2 * n ≡ 2 * n = omega arith in e) ∙ twice n
mask_step false n = ne_eqb (1 + 2 * n) 0 (λ e. omega (arith, e))

empty_mask : (p : ℕ → Bool) (xs : List ℕ) → nat_eq (mask_l (map (λ x. not (p x)) xs)) 0 ≡ list_all p xs
empty_mask p [] = refl
empty_mask p (x ∷ xs) = mask_step (p x) (mask_l (map (λ x. not (p x)) xs)) ∙ ap (λ b. p x && b) (empty_mask p xs)

-- no lane is set just where each octet lies in one of the ranges
pub none_outside : (rs : List (ℕ × ℕ)) (xs os : List ℕ) → length xs ≤ 64 → os ≡ map (outside rs) xs
    → nat_eq (mask_l (map (top 7) os) % 2 ^ 64) 0 ≡ list_all (is_in_some rs) xs
none_outside rs xs os few e =
    ap (λ ms. nat_eq (mask_l ms % 2 ^ 64) 0) (ap (map (top 7)) e ∙ tops rs xs)
    ∙ ap (λ n. nat_eq n 0) (mask_l-mod (map (λ x. not (is_in_some rs x)) xs) 64 (omega (arith, length-map xs (λ x. not (is_in_some rs x)))))
    ∙ empty_mask (is_in_some rs) xs
