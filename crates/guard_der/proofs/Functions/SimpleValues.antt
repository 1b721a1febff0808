-- The tests of simple values, one step at a time.
use Rattle.std.proofs.Common.{◌≡◌, ℕ, suc, ◌+◌, ◌^◌, ◌<◌, ◌≤◌, Bool, true, false, List, [], ◌∷◌, length, get_or, refl, sym, arith}
use Rattle.std.specs.Prelude.{◌&&◌, nat_le, nat_lt}
use Rattle.std.proofs.lemmas.Bool.{and_parts, and_from, leb-true, ltb-true, lt-ltb, le-leb, lt-leb}
use Rattle.guard_model.proofs.Tests.{same_test}
use Rattle.guard_der.specs.Fits.{all_below, fits_arcs, fits_first_arcs}

pub all_below_from : (limit : ℕ) (xs : List ℕ) → ((i : ℕ) → i < length xs → get_or xs i 0 < limit) → all_below limit xs ≡ true
all_below_from limit [] h = refl
all_below_from limit (x ∷ xs) h = and_from (nat_lt x limit) (all_below limit xs) (lt-ltb x limit (h 0 (omega arith))) (all_below_from limit xs (λ i lt. h (suc i) (omega arith)))

-- ---- OBJECT IDENTIFIER

pub low_second : (n y : ℕ) → n ≤ 40 → nat_le y 39 ≡ (nat_le y 39 && nat_lt (n + y) (2 ^ 128))
low_second n y low = same_test (nat_le y 39) (nat_le y 39 && nat_lt (n + y) (2 ^ 128))
    (λ e. and_from (nat_le y 39) (nat_lt (n + y) (2 ^ 128)) e (lt-ltb (n + y) (2 ^ 128) (omega (arith, leb-true y 39 e, low))))
    (λ e. (and_parts (nat_le y 39) (nat_lt (n + y) (2 ^ 128)) e).0)

pub any_second : (y : ℕ) → nat_le y 340282366920938463463374607431768211375 ≡ nat_lt (80 + y) (2 ^ 128)
any_second y = same_test (nat_le y 340282366920938463463374607431768211375) (nat_lt (80 + y) (2 ^ 128))
    (λ e. lt-ltb (80 + y) (2 ^ 128) (omega (arith, leb-true y 340282366920938463463374607431768211375 e)))
    (λ e. le-leb y 340282366920938463463374607431768211375 (omega (arith, ltb-true (80 + y) (2 ^ 128) e)))

high_first : (a b d : Bool) → a ≡ false → ((a && b) && d) ≡ false
high_first a b d h = rw h refl

pub no_second : (x y : ℕ) → 2 < x → fits_first_arcs x y ≡ false
no_second x y high = high_first (nat_le x 2) _ _ (lt-leb x 2 high)

then_true : (a b : Bool) → b ≡ true → (a && b) ≡ a
then_true true b h = h
then_true false b h = refl

pub two_arcs : (arcs : List ℕ) → 2 ≤ length arcs → ((i : ℕ) → i < length arcs → get_or arcs i 0 < 2 ^ 128) → fits_first_arcs (get_or arcs 0 0) (get_or arcs 1 0) ≡ fits_arcs arcs
two_arcs [] two low = absurd (omega arith)
two_arcs (x ∷ []) two low = absurd (omega arith)
two_arcs (x ∷ y ∷ arcs) two low = sym (then_true (fits_first_arcs x y) (all_below (2 ^ 128) arcs) (all_below_from (2 ^ 128) arcs (λ i lt. low (suc (suc i)) (omega arith))))

pub few_arcs : (arcs : List ℕ) → length arcs < 2 → false ≡ fits_arcs arcs
few_arcs [] h = refl
few_arcs (x ∷ []) h = refl
few_arcs (x ∷ y ∷ arcs) h = absurd (omega arith)
