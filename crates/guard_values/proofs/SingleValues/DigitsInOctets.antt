-- Digits in octets.
use Rattle.std.proofs.Common.{◌≡◌, ℕ, zero, suc, ◌+◌, ◌-◌, ◌*◌, ◌/◌, ◌%◌, ◌^◌, ◌<◌, ◌≤◌, List, [], ◌∷◌, ◌++◌, length, drop, refl, sym, ap, ◌∙◌, subst, add-one, arith}
use Rattle.std.proofs.Common.{true, false, inl, inr, append_assoc, length-drop}
use Rattle.std.specs.Prelude.{slice_index, All}
use Rattle.std.proofs.Math.Nat.{pow-zero, pow-suc, pow-le-pow_right, mul-le-mul_right}
use Rattle.std.proofs.lemmas.Bool.{cases_lt}
use Rattle.std.proofs.lemmas.Grind.{common_steps}
use Rattle.std.proofs.lemmas.List.{append-nil, get_or_past}
use Rattle.std.proofs.lemmas.List.Elements.{All-get_or}
use Rattle.guard_lexer.specs.Octets.{is_quote}
use Rattle.guard_values.specs.Strings.{filled, packed, is_binary_digit, is_hexadecimal_digit, digit_value, up_to_quote}

-- ---- one octet

filled_none : (base places : ℕ) → filled base places [] ≡ 0
filled_none base zero = refl
filled_none base (suc places) = refl

no_digit : (i : ℕ) → slice_index [] i ≡ 0
no_digit zero = refl
no_digit (suc i) = refl

nothing_left : (i : ℕ) → ◌≡◌ {A = List ℕ} (drop i []) []
nothing_left zero = refl
nothing_left (suc i) = refl

first_of_rest : (base p : ℕ) (ds : List ℕ) (i : ℕ) → filled base (suc p) (drop i ds) ≡ slice_index ds i * base ^ p + filled base p (drop (suc i) ds)
first_of_rest base p [] i =
    ap (filled base (suc p)) (nothing_left i)
    ∙ (let e : slice_index [] i * base ^ p + filled base p (drop (suc i) []) ≡ 0 = rw (no_digit i, filled_none base p) (omega arith) in sym e)
first_of_rest base p (d ∷ ds) zero = refl
first_of_rest base p (d ∷ ds) (suc i) = first_of_rest base p ds i

in_front : (n base s power rest : ℕ) → (n * base + s) * power + rest ≡ n * (power * base) + (s * power + rest)
in_front n base s power rest = omega arith

pub next_digit : (base places place number total : ℕ) (ds : List ℕ) → place < places
    → number * base ^ (places - place) + filled base (places - place) (drop place ds) ≡ total
    → (number * base + slice_index ds place) * base ^ (places - (place + 1)) + filled base (places - (place + 1)) (drop (place + 1) ds) ≡ total
next_digit base places place number total ds lt e =
    let p = places - (place + 1) in
    let more : places - place ≡ suc p = omega arith in
    let before : number * base ^ suc p + filled base (suc p) (drop place ds) ≡ total = subst (λ n. number * base ^ n + filled base n (drop place ds) ≡ total) more e in
    let power : base ^ suc p ≡ base ^ p * base = pow-suc base p in
    let first : filled base (suc p) (drop place ds) ≡ slice_index ds place * base ^ p + filled base p (drop (suc place) ds) = first_of_rest base p ds place in
    let same : drop (place + 1) ds ≡ drop (suc place) ds = ap (λ n. drop n ds) (add-one place) in
    rw same (in_front number base (slice_index ds place) (base ^ p) (filled base p (drop (suc place) ds)) ∙ (rw (power, first) at before))

pub small_digit : (base : ℕ) (ds : List ℕ) (i : ℕ) → 1 ≤ base → All (λ d. d < base) ds → slice_index ds i < base
small_digit base ds i pos small = elim (cases_lt i (length ds)) [
  | inl lt ↦ All-get_or (λ d. d < base) ds i 0 lt small
  | inr le ↦ rw (get_or_past ds i 0 le) pos
]

pub still_small : (base place number digit : ℕ) → number < base ^ place → digit < base → number * base + digit < base ^ (place + 1)
still_small base place number digit lt small =
    let power : base ^ (place + 1) ≡ base ^ place * base = ap (λ n. base ^ n) (add-one place) ∙ pow-suc base place in
    let most : (number + 1) * base ≤ base ^ place * base = mul-le-mul_right base (omega (arith, lt)) in
    rw power (omega (arith, most, small))

pub fits_octet : (base places place number : ℕ) → 1 ≤ base → base ^ places ≡ 256 → place ≤ places → number < base ^ place → number < 256
fits_octet base places place number pos octet le lt =
    let most : base ^ place ≤ base ^ places = pow-le-pow_right pos le in
    omega (arith, most, octet, lt)

pub product_fits : (base places place number digit : ℕ) → 1 ≤ base → base ^ places ≡ 256 → place < places → number < base ^ place → digit < base → number * base + digit < 256
product_fits base places place number digit pos octet lt small below =
    fits_octet base places (place + 1) (number * base + digit) pos octet (omega (arith, lt)) (still_small base place number digit small below)

pub all_digits : (base places place number total : ℕ) (ds : List ℕ) → places ≤ place → place ≤ places → number * base ^ (places - place) + filled base (places - place) (drop place ds) ≡ total → number ≡ total
all_digits base places place number total ds le ge e =
    let none : places - place ≡ 0 = omega arith in
    let done : number * base ^ 0 + filled base 0 (drop place ds) ≡ total = subst (λ n. number * base ^ n + filled base n (drop place ds) ≡ total) none e in
    let one : base ^ 0 ≡ 1 = pow-zero base in
    let whole : number * 1 + 0 ≡ total = rw one at done in
    omega (arith, whole)

-- ---- all octets

-- so many are enough
enough : (base places m n : ℕ) (ds : List ℕ) → 1 ≤ places → length ds ≤ m → length ds ≤ n → packed base places m ds ≡ packed base places n ds
enough base places m n [] pos le ge = refl
enough base places zero n (d ∷ ds) pos le ge = absurd (omega (arith, le))
enough base places (suc m) zero (d ∷ ds) pos le ge = absurd (omega (arith, ge))
enough base places (suc m) (suc n) (d ∷ ds) pos le ge =
    let rest = drop places (d ∷ ds) in
    let long : length rest ≡ suc (length ds) - places = length-drop places (d ∷ ds) in
    ap (λ os. filled base places (d ∷ ds) ∷ os) (enough base places m n rest pos (omega (arith, long, le, pos)) (omega (arith, long, ge, pos)))

pub next_octet : (base places : ℕ) (octets ds total : List ℕ) → 1 ≤ places → 1 ≤ length ds → octets ++ packed base places (length ds) ds ≡ total
    → (octets ++ filled base places ds ∷ []) ++ packed base places (length (drop places ds)) (drop places ds) ≡ total
next_octet base places octets [] total pos long e = absurd (omega (arith, long))
next_octet base places octets (d ∷ ds) total pos long e =
    let rest = drop places (d ∷ ds) in
    let count : length rest ≡ suc (length ds) - places = length-drop places (d ∷ ds) in
    append_assoc octets (filled base places (d ∷ ds) ∷ []) (packed base places (length rest) rest)
    ∙ ap (λ os. octets ++ filled base places (d ∷ ds) ∷ os) (enough base places (length rest) (length ds) rest pos (omega arith) (omega (arith, count, pos)))
    ∙ e

pub all_octets : (base places : ℕ) (octets ds total : List ℕ) → length ds ≡ 0 → octets ++ packed base places (length ds) ds ≡ total → octets ≡ total
all_octets base places octets [] total none e = sym (append-nil octets) ∙ e
all_octets base places octets (d ∷ ds) total none e = absurd (omega (arith, none))

-- ---- which digits there are

pub binary_below : (o : ℕ) → is_binary_digit o ≡ true → digit_value o < 2
binary_below o e = grind (arith, common_steps)

pub hexadecimal_below : (o : ℕ) → is_hexadecimal_digit o ≡ true → digit_value o < 16
hexadecimal_below o e = grind (arith, common_steps)

-- each bit of a hexadecimal digit
pub bits_below : (d : ℕ) → d < 16 → (d / 8 < 2) × (d / 4 % 2 < 2) × (d / 2 % 2 < 2) × (d % 2 < 2)
bits_below d lt = (omega (arith, lt), omega arith, omega arith, omega arith)

-- ---- strings in double quotes

pub doubled : (octets : List ℕ) (o p : ℕ) (rest : List ℕ) → octets ≡ o ∷ p ∷ rest → is_quote o ≡ true → is_quote p ≡ true → up_to_quote octets ≡ o ∷ up_to_quote rest
doubled octets o p rest is e f = rw (is, e, f) refl

pub closing : (octets : List ℕ) (o p : ℕ) (rest : List ℕ) → octets ≡ o ∷ p ∷ rest → is_quote o ≡ true → is_quote p ≡ false → up_to_quote octets ≡ []
closing octets o p rest is e f = rw (is, e, f) refl

pub another : (octets : List ℕ) (o p : ℕ) (rest : List ℕ) → octets ≡ o ∷ p ∷ rest → is_quote o ≡ false → up_to_quote octets ≡ o ∷ up_to_quote (p ∷ rest)
another octets o p rest is e = rw (is, e) refl

pub alone : (octets : List ℕ) → length octets ≤ 1 → up_to_quote octets ≡ []
alone [] le = refl
alone (o ∷ []) le = refl
alone (o ∷ p ∷ octets) le = absurd (omega (arith, le))
