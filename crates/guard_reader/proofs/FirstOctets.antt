-- Octets are in the order of the numbers that the first of them spell, and where these are one, of what follows.
use Rattle.std.proofs.Common.{◌≡◌, ◌≢◌, ℕ, zero, suc, ◌+◌, ◌*◌, ◌<◌, ◌≤◌, Bool, false, ltb, eqb, List, length, get_or, drop, drop-cons, sym, ap, ap₂, ◌∙◌, arith}
use Rattle.std.specs.Prelude.{◌||◌, ◌&&◌}
use Rattle.std.specs.Int.{from_be_bytes, w64}
use Rattle.std.proofs.lemmas.List.{drop_all}
use Rattle.std.proofs.lemmas.Bool.Decides.{nat_tests}
use Rattle.guard_der.specs.Fits.{descends}

abbrev Octets : List ℕ → Type 0
Octets xs = (i : ℕ) → get_or xs i 0 < 256

-- the number that k octets from place i on spell after n, the highest first
abbrev spelled : ℕ → ℕ → ℕ → List ℕ → ℕ
spelled zero i n xs = n
spelled (suc k) i n xs = spelled k (suc i) (n * 256 + get_or xs i 0) xs

-- what the first four spell, as code adds them
abbrev of_four : List ℕ → ℕ
of_four xs = get_or xs 0 0 * 16777216 + (get_or xs 1 0 * 65536 + (get_or xs 2 0 * 256 + get_or xs 3 0))

-- n is greater than m, or is m, and then t decides
abbrev above : ℕ → ℕ → Bool → Bool
above n m t = ltb m n || (eqb n m && t)

one_more : (n m x y : ℕ) (t : Bool) → x < 256 → y < 256 → above n m (above x y t) ≡ above (n * 256 + x) (m * 256 + y) t
one_more n m x y t p q = grind (arith, nat_tests)

by_numbers : (k i n m : ℕ) (xs ys : List ℕ) → Octets xs → Octets ys → i + k ≤ length xs → i + k ≤ length ys
    → above n m (descends (drop i xs) (drop i ys)) ≡ above (spelled k i n xs) (spelled k i m ys) (descends (drop (i + k) xs) (drop (i + k) ys))
by_numbers zero i n m xs ys p q h g =
    let e : i + 0 ≡ i = omega arith in
    ap (λ (j : ℕ). above n m (descends (drop j xs) (drop j ys))) (sym e)
by_numbers (suc k) i n m xs ys p q h g =
    let e : suc i + k ≡ i + suc k = omega arith in
    ap₂ (λ (l r : List ℕ). above n m (descends l r)) (drop-cons xs i 0 (omega (arith, h))) (drop-cons ys i 0 (omega (arith, g)))
    ∙ one_more n m (get_or xs i 0) (get_or ys i 0) (descends (drop (suc i) xs) (drop (suc i) ys)) (p i) (q i)
    ∙ by_numbers k (suc i) (n * 256 + get_or xs i 0) (m * 256 + get_or ys i 0) xs ys p q (omega (arith, h)) (omega (arith, g))
    ∙ ap (λ (j : ℕ). above (spelled (suc k) i n xs) (spelled (suc k) i m ys) (descends (drop j xs) (drop j ys))) e

pub by_four : (n m : ℕ) (xs ys : List ℕ) → Octets xs → Octets ys → n ≡ of_four xs → m ≡ of_four ys → 4 ≤ length xs → 4 ≤ length ys
    → descends xs ys ≡ above n m (descends (drop 4 xs) (drop 4 ys))
by_four n m xs ys p q e f h g =
    by_numbers 4 0 0 0 xs ys p q h g
    ∙ ap₂ (λ n m. above n m (descends (drop 4 xs) (drop 4 ys))) (four xs n e) (four ys m f)
  where
    four : (xs : List ℕ) (n : ℕ) → n ≡ of_four xs → spelled 4 0 0 xs ≡ n
    four xs n e = omega (arith, e)

eight : (xs : List ℕ) → spelled 8 0 0 xs ≡ from_be_bytes w64 xs
eight xs = omega arith

pub by_eight : (xs ys : List ℕ) → Octets xs → Octets ys → 8 ≤ length xs → 8 ≤ length ys
    → descends xs ys ≡ above (from_be_bytes w64 xs) (from_be_bytes w64 ys) (descends (drop 8 xs) (drop 8 ys))
by_eight xs ys p q h g =
    by_numbers 8 0 0 0 xs ys p q h g
    ∙ ap₂ (λ n m. above n m (descends (drop 8 xs) (drop 8 ys))) (eight xs) (eight ys)

-- the numbers differ
pub decided : (n m : ℕ) (b t : Bool) → n ≢ m → b ≡ above n m t → ltb m n ≡ b
decided n m b t e h = grind (arith, nat_tests)

-- they are one
pub level : (n m : ℕ) (b t : Bool) → n ≡ m → b ≡ above n m t → t ≡ b
level n m b t e h = grind (arith, nat_tests)

-- nothing follows
pub ended : (n m : ℕ) (b : Bool) (xs ys : List ℕ) → length xs ≡ 4 → b ≡ above n m (descends (drop 4 xs) ys) → ltb m n ≡ b
ended n m b xs ys long h = last n m b (descends (drop 4 xs) ys) (ap (λ (l : List ℕ). descends l ys) (drop_all 4 xs (omega (arith, long)))) h
  where
    last : (n m : ℕ) (b t : Bool) → t ≡ false → b ≡ above n m t → ltb m n ≡ b
    last n m b t e h = grind (arith, nat_tests)
