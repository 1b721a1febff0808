-- The place of a number in a list of them.
use Rattle.std.proofs.Common.{◌≡◌, ◌↔◌, ℕ, zero, suc, ◌<◌, Bool, true, false, cond, ◌||◌, List, [], ◌∷◌, take, Option, Some, None, option_map, slice_get, nat_eq, refl, sym, ap, ◌∙◌, subst, inl, inr, arith}
use Rattle.std.proofs.lemmas.Bool.Decides.{eqb_tells}
use Rattle.guard_names.specs.Order.{is_listed}
use Rattle.guard_names.specs.Places.{place_in}

same_answer : (o p : Option ℕ) → ((n : ℕ) → o ≡ Some n → p ≡ Some n) → ((n : ℕ) → p ≡ Some n → o ≡ Some n) → o ≡ p
same_answer None None there back = refl
same_answer None (Some n) there back = back n refl
same_answer (Some n) p there back = sym (there n refl)

one_place : (b : Bool) (n number : ℕ) (ns : List ℕ) (p : ℕ) → (b ≡ true → number ≡ n) → ((q : ℕ) → place_in ns number ≡ Some q → slice_get ns q ≡ Some number)
    → cond b (Some 0) (option_map suc (place_in ns number)) ≡ Some p → slice_get (n ∷ ns) p ≡ Some number
one_place true n number ns p same inside e =
    let first : 0 ≡ p = number_of 0 p e in
    subst (λ q. slice_get (n ∷ ns) q ≡ Some number) first (ap (λ (x : ℕ). Some x) (sym (same refl)))
  where
    number_of : (x y : ℕ) → ◌≡◌ {A = Option ℕ} (Some x) (Some y) → x ≡ y
    number_of x y e = cc
one_place false n number ns p same inside e = after (place_in ns number) refl e where
  after : (found : Option ℕ) → place_in ns number ≡ found → option_map suc found ≡ Some p → slice_get (n ∷ ns) p ≡ Some number
  after None is e = absurd cc
  after (Some q) is e =
      let next : suc q ≡ p = (let same : ◌≡◌ {A = Option ℕ} (Some (suc q)) (Some p) = e in cc) in
      subst (λ x. slice_get (n ∷ ns) x ≡ Some number) next (inside q is)

-- it is at the place
pub placed_there : (ns : List ℕ) (number p : ℕ) → place_in ns number ≡ Some p → slice_get ns p ≡ Some number
placed_there [] number p e = absurd cc
placed_there (n ∷ ns) number p e = elim (eqb_tells number n) [
  | inl h ↦ one_place (nat_eq number n) n number ns p (λ _. h.1) (λ q f. placed_there ns number q f) e
  | inr h ↦ one_place (nat_eq number n) n number ns p (λ t. absurd (let f = h.0 in cc)) (λ q f. placed_there ns number q f) e
]

-- where it is there, it has a place
pub is_placed : (ns : List ℕ) (number p : ℕ) → slice_get ns p ≡ Some number → (q : ℕ) × (place_in ns number ≡ Some q)
is_placed [] number p e = absurd cc
is_placed (n ∷ ns) number zero e = elim (eqb_tells number n) [
  | inl h ↦ (0, rw h.0 refl)
  | inr h ↦ absurd (let same : ◌≡◌ {A = Option ℕ} (Some n) (Some number) = e in let other = h.1 in other (let x : n ≡ number = cc in sym x))
]
is_placed (n ∷ ns) number (suc p) e = elim (eqb_tells number n) [
  | inl h ↦ (0, rw h.0 refl)
  | inr h ↦ let later = is_placed ns number p e in (suc later.0, rw (h.0, later.1) refl)
]

-- what answers the place of a number that is there once at most
pub place_is : (order : List ℕ) (number : ℕ) (o : Option ℕ) → ((p : ℕ) → (o ≡ Some p) ↔ (slice_get order p ≡ Some number)) → o ≡ place_in order number
place_is order number o at = same_answer o (place_in order number) to_place (λ p e. (at p).1 (placed_there order number p e)) where
  to_place : (p : ℕ) → o ≡ Some p → place_in order number ≡ Some p
  to_place p e =
      let q = is_placed order number p ((at p).0 e) in
      q.1 ∙ sym ((at q.0).1 (placed_there order number q.0 q.1)) ∙ e

-- what is listed among the first ones has its place there
pub placed_before : (order : List ℕ) (place number : ℕ) → is_listed (take place order) number ≡ true → (p : ℕ) × (place_in order number ≡ Some p) × (p < place)
placed_before [] zero number h = absurd cc
placed_before [] (suc place) number h = absurd cc
placed_before (n ∷ order) zero number h = absurd cc
placed_before (n ∷ order) (suc place) number h = by (nat_eq number n) refl h (placed_before order place number)
  where
    by : (b : Bool) → nat_eq number n ≡ b → (b || is_listed (take place order) number) ≡ true
        → (is_listed (take place order) number ≡ true → (p : ℕ) × (place_in order number ≡ Some p) × (p < place)) → (p : ℕ) × (place_in (n ∷ order) number ≡ Some p) × (p < suc place)
    by true e h' rest = (0, rw e refl, omega arith)
    by false e h' rest = let later = rest h' in (suc later.0, rw (e, later.1) refl, omega (arith, later.2))
