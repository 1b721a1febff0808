-- The header that is read is the one that is there, and one that is there is read.
use Rattle.std.proofs.Common.{◌≡◌, ℕ, zero, suc, ◌+◌, ◌-◌, ◌*◌, ◌/◌, ◌%◌, ◌^◌, ◌<◌, ◌≤◌, false, cond, ltb, eqb, List, [], ◌∷◌, ◌++◌, length, map, take, drop, Result, Ok, Err, refl, sym, ap, ◌∙◌, arith, inl, inr}
use Rattle.std.specs.Prelude.{◌||◌}
use Rattle.std.proofs.Math.Nat.{pow-le-pow_right}
use Rattle.std.proofs.lemmas.Nat.{mul-le, div-mul-add, mod-mul-add, div-add-mod'}
use Rattle.std.proofs.lemmas.Bool.{cond-true, cond-false, lt-ltb, le-ltb, ltb-true, ltb-false, eqb-false, ne_eqb, cases_lt, or_parts, or_from}
use Rattle.std.proofs.lemmas.List.{length-append, length-take, take_at, drop_at, take-append-drop}
use Rattle.guard_model.specs.Answer.{◌>>=◌}
use Rattle.guard_der.specs.declared.breach.Code.{Code}
use Rattle.guard_der.specs.declared.breach.Code.TheVariants.{Truncated, TagForm, IndefiniteLength, NonMinimalLength, LengthTooLarge}
use Rattle.guard_der.specs.Octets.{fewest, big_endian, unsigned_octets, base_128}
use Rattle.guard_der.specs.Element.{length_octets}
use Rattle.guard_der.specs.Head.{number_from, high_number, long_length, length_at}
use Rattle.guard_der.proofs.Numbers.Digits.{spell, spell_bound, AreDigits, AreLeast, least_fewest, fewest_least, fewest_spells, fewest_digits, fewest_length, fewest_enough}
use Rattle.guard_model.proofs.Results.{bind_ok, guard_ok, same_Ok}
use Rattle.guard_model.proofs.Tests.{chosen}

abbrev Read : Type 0
Read = Result (ℕ × List ℕ) Code

abbrev read : ℕ → List ℕ → Read
read n rest = Ok (n, rest)

-- bit 8 set in each
abbrev pub marked : List ℕ → List ℕ
marked ds = map (λ d. 128 + d) ds

-- what `number_from` took after the number n
record Rest (n tries m : ℕ) (os rest : List ℕ) : Type 0 where
  ds : List ℕ
  d : ℕ
  parts : os ≡ (marked ds ++ d ∷ []) ++ rest
  digits : AreDigits 128 ds
  last : d < 128
  short : length ds < tries
  number : m ≡ spell 128 n ds * 128 + d

number_takes : (tries n m : ℕ) (os rest : List ℕ) → AreDigits 256 os → number_from tries n os ≡ Ok (m, rest) → Rest n tries m os rest
unfolding number_from
number_takes tries n m [] rest octets e = absurd cc
number_takes zero n m (o ∷ os) rest octets e = absurd cc
number_takes (suc tries) n m (o ∷ os) rest octets e =
    elim (chosen (ltb o 128) (read (n * 128 + o) os) (number_from tries (n * 128 + (o - 128)) os) (Ok (m, rest)) e) [
      | inl last ↦
          let pair = same_Ok (n * 128 + o, os) (m, rest) last.1 in
          record { ds = []; d = o; parts = ap (λ (p : ℕ × List ℕ). o ∷ p.1) pair; digits = tt; last = ltb-true o 128 last.0; short = omega arith; number = sym (ap (λ (p : ℕ × List ℕ). p.0) pair) }
      | inr more ↦
          let high : 128 ≤ o = ltb-false o 128 more.0 in
          let r = number_takes tries (n * 128 + (o - 128)) m os rest octets.1 more.1 in
          let octet : o ≡ 128 + (o - 128) = omega arith in
          record { ds = (o - 128) ∷ r.ds; d = r.d; parts = ap (λ (x : List ℕ). o ∷ x) r.parts ∙ ap (λ (x : ℕ). x ∷ ((marked r.ds ++ r.d ∷ []) ++ rest)) octet; digits = (omega (arith, octets.0), r.digits); last = r.last; short = omega (arith, r.short); number = r.number }
    ]

first_least : (n : ℕ) (ds : List ℕ) → 1 ≤ n → n < 128 → AreLeast 128 128 (n ∷ ds)
first_least n [] some small = small
first_least n (d ∷ ds) some small = (small, omega arith)

spell_some : (n : ℕ) (ds : List ℕ) → 1 ≤ n → 1 ≤ spell 128 n ds
spell_some n [] some = some
spell_some n (d ∷ ds) some = spell_some (n * 128 + d) ds (omega arith)

-- a number of which all octets but the last are these digits
pub base_128_is : (n d : ℕ) (ds : List ℕ) → 1 ≤ n → n < 128 → AreDigits 128 ds → length ds ≤ 17 → d < 128 → base_128 (spell 128 n ds * 128 + d) ≡ marked (n ∷ ds) ++ d ∷ []
unfolding base_128
base_128_is n d ds some small digits short last =
    let least : AreLeast 128 128 (n ∷ ds) = first_least n ds some small in
    let front : fewest 128 128 17 (spell 128 (0 * 128 + n) ds) ≡ n ∷ ds = least_fewest 128 128 17 (n ∷ ds) (omega arith) (omega arith) (small, digits) least (omega arith) in
    let same : 0 * 128 + n ≡ n = omega arith in
    let front2 : fewest 128 128 17 (spell 128 n ds) ≡ n ∷ ds = ap (λ (k : ℕ). fewest 128 128 17 (spell 128 k ds)) (sym same) ∙ front in
    let large : 1 ≤ spell 128 n ds = spell_some n ds some in
    let quotient : (spell 128 n ds * 128 + d) / 128 ≡ spell 128 n ds = div-mul-add (spell 128 n ds) 128 d last in
    let rest : (spell 128 n ds * 128 + d) % 128 ≡ d = mod-mul-add (spell 128 n ds) 128 d last in
    cond-false (ltb (spell 128 n ds * 128 + d) 128) _ _ (le-ltb (spell 128 n ds * 128 + d) 128 (omega (arith, large)))
    ∙ ap (λ (k : ℕ). marked (fewest 128 128 17 k) ++ ((spell 128 n ds * 128 + d) % 128) ∷ []) quotient
    ∙ ap (λ (k : ℕ). marked (fewest 128 128 17 (spell 128 n ds)) ++ k ∷ []) rest
    ∙ ap (λ (x : List ℕ). marked x ++ d ∷ []) front2

pub high_takes : (os : List ℕ) (m : ℕ) (rest : List ℕ) → AreDigits 256 os → high_number os ≡ Ok (m, rest) → (os ≡ base_128 m ++ rest) × (31 ≤ m) × (m < 2 ^ 28)
unfolding high_number number_from base_128
high_takes [] m rest octets e = absurd cc
high_takes (o ∷ os) m rest octets e =
    let a = guard_ok (eqb o 128) TagForm (number_from 4 0 (o ∷ os) >>= λ r. cond (ltb r.0 31) (Err TagForm) (Ok r)) (m, rest) e in
    let b = bind_ok (number_from 4 0 (o ∷ os)) (λ r. cond (ltb r.0 31) (Err TagForm) (Ok r)) (m, rest) a.1 in
    let c = guard_ok (ltb b.0.0 31) TagForm (Ok b.0) (m, rest) b.2 in
    let pair : b.0 ≡ (m, rest) = same_Ok b.0 (m, rest) c.1 in
    let high : 31 ≤ m = rw (← ap (λ (p : ℕ × List ℕ). p.0) pair) (ltb-false b.0.0 31 c.0) in
    let whole : number_from 4 0 (o ∷ os) ≡ Ok (m, rest) = b.1 ∙ ap (λ (p : ℕ × List ℕ). read p.0 p.1) pair in
    let ne : o ≡ 128 → ⊥ = eqb-false o 128 a.0 in
    elim (chosen (ltb o 128) (read (0 * 128 + o) os) (number_from 3 (0 * 128 + (o - 128)) os) (Ok (m, rest)) whole) [
      | inl last ↦
          let single = same_Ok (0 * 128 + o, os) (m, rest) last.1 in
          let number : o ≡ m = omega (arith, ap (λ (p : ℕ × List ℕ). p.0) single) in
          let low : o < 128 = ltb-true o 128 last.0 in
          (rw (← number, cond-true (ltb o 128) (o ∷ []) _ last.0) (ap (λ (p : ℕ × List ℕ). o ∷ p.1) single), high, omega (arith, low, number))
      | inr more ↦
          let large : 128 ≤ o = ltb-false o 128 more.0 in
          let r = number_takes 3 (0 * 128 + (o - 128)) m os rest octets.1 more.1 in
          let same : 0 * 128 + (o - 128) ≡ o - 128 = omega arith in
          let number : m ≡ spell 128 (o - 128) r.ds * 128 + r.d = r.number ∙ ap (λ (k : ℕ). spell 128 k r.ds * 128 + r.d) same in
          let octet : o ≡ 128 + (o - 128) = omega arith in
          let spelled = base_128_is (o - 128) r.d r.ds (omega (arith, ne)) (omega (arith, octets.0)) r.digits (omega (arith, r.short)) r.last in
          let bound = spell_bound 128 (o - 128) r.ds r.digits in
          let power : 128 ^ length r.ds ≤ 128 ^ 2 = pow-le-pow_right {n = 128} (omega arith) {i = length r.ds} {j = 2} (omega (arith, r.short)) in
          let wider = mul-le (o - 128 + 1) (128 ^ length r.ds) 128 (128 ^ 2) (omega (arith, octets.0)) power in
          (rw (number, spelled) (ap (λ (x : List ℕ). o ∷ x) r.parts ∙ ap (λ (x : ℕ). x ∷ ((marked r.ds ++ r.d ∷ []) ++ rest)) octet), high, omega (arith, number, bound, wider, r.last))
    ]

number_again : (ds : List ℕ) (d tries n : ℕ) (rest : List ℕ) → AreDigits 128 ds → d < 128 → length ds < tries → number_from tries n ((marked ds ++ d ∷ []) ++ rest) ≡ Ok (spell 128 n ds * 128 + d, rest)
unfolding number_from
number_again ds d zero n rest digits last short = absurd (omega arith)
number_again [] d (suc tries) n rest digits last short = cond-true (ltb d 128) _ _ (lt-ltb d 128 last)
number_again (e ∷ ds) d (suc tries) n rest digits last short =
    let low : (128 + e) - 128 ≡ e = omega arith in
    cond-false (ltb (128 + e) 128) _ _ (le-ltb (128 + e) 128 (omega arith))
    ∙ ap (λ (k : ℕ). number_from tries (n * 128 + k) ((marked ds ++ d ∷ []) ++ rest)) low
    ∙ number_again ds d tries (n * 128 + e) rest digits.1 last (omega (arith, short))

-- a list of digits from which a number above 0 is spelled begins with one above 0
pub first_some : (base : ℕ) (ds : List ℕ) → AreDigits base ds → AreLeast base base ds → 1 ≤ spell base 0 ds → (d : ℕ) × (others : List ℕ) × (ds ≡ d ∷ others) × (1 ≤ d)
first_some base [] digits least some = absurd least
first_some base (d ∷ []) digits least some = (d, [], refl, omega (arith, some))
first_some base (zero ∷ e ∷ ds) digits least some = absurd (omega (arith, digits.1.0, least.1))
first_some base (suc d ∷ e ∷ ds) digits least some = (suc d, e ∷ ds, refl, omega arith)

high_number_is : (o : ℕ) (os rest : List ℕ) (m : ℕ) → (o ≡ 128 → ⊥) → 31 ≤ m → number_from 4 0 (o ∷ os) ≡ Ok (m, rest) → high_number (o ∷ os) ≡ Ok (m, rest)
unfolding high_number
high_number_is o os rest m ne large e =
    cond-false (eqb o 128) _ _ (ne_eqb o 128 ne)
    ∙ ap (λ (r : Read). r >>= λ r. cond (ltb r.0 31) (Err TagForm) (Ok r)) e
    ∙ cond-false (ltb m 31) _ _ (le-ltb m 31 large)

pub high_again : (m : ℕ) (rest : List ℕ) → 31 ≤ m → m < 2 ^ 28 → high_number (base_128 m ++ rest) ≡ Ok (m, rest)
unfolding base_128
high_again m rest large small =
    elim (cases_lt m 128) [
      | inl low ↦
          ap (λ (x : List ℕ). high_number (x ++ rest)) (cond-true (ltb m 128) (m ∷ []) (marked (fewest 128 128 17 (m / 128)) ++ (m % 128) ∷ []) (lt-ltb m 128 low))
          ∙ high_number_is m rest rest m (λ e. absurd (omega (arith, e, low))) large (number_again [] m 4 0 rest tt low (omega arith) ∙ ap (λ (k : ℕ). read k rest) (omega arith))
      | inr high ↦
          let below : m / 128 < 128 * 128 ^ 2 = omega (arith, div-add-mod' m 128) in
          let ds : List ℕ = fewest 128 128 2 (m / 128) in
          let same : fewest 128 128 17 (m / 128) ≡ ds = fewest_enough 128 128 15 2 (m / 128) (omega arith) below in
          let digits = fewest_digits 128 128 2 (m / 128) (omega arith) (omega arith) below in
          let least = fewest_least 128 128 2 (m / 128) (omega arith) below in
          let number : spell 128 0 ds * 128 + m % 128 ≡ m = ap (λ (k : ℕ). k * 128 + m % 128) (fewest_spells 128 128 2 (m / 128)) ∙ div-add-mod' m 128 in
          let some : 1 ≤ spell 128 0 ds = rw (fewest_spells 128 128 2 (m / 128)) (omega (arith, high)) in
          let f = first_some 128 ds digits least some in
          let whole : number_from 4 0 ((marked ds ++ (m % 128) ∷ []) ++ rest) ≡ Ok (m, rest) = number_again ds (m % 128) 4 0 rest digits (omega arith) (omega (arith, fewest_length 128 128 2 (m / 128))) ∙ ap (λ (k : ℕ). read k rest) number in
          let begun : (marked ds ++ (m % 128) ∷ []) ++ rest ≡ (128 + f.0) ∷ ((marked f.1 ++ (m % 128) ∷ []) ++ rest) = ap (λ (x : List ℕ). (marked x ++ (m % 128) ∷ []) ++ rest) f.2 in
          ap (λ (x : List ℕ). high_number (x ++ rest)) (cond-false (ltb m 128) (m ∷ []) (marked (fewest 128 128 17 (m / 128)) ++ (m % 128) ∷ []) (le-ltb m 128 high) ∙ ap (λ (x : List ℕ). marked x ++ (m % 128) ∷ []) same)
          ∙ ap high_number begun
          ∙ high_number_is (128 + f.0) ((marked f.1 ++ (m % 128) ∷ []) ++ rest) rest m (λ e. absurd (omega (arith, e, f.3))) large (ap (number_from 4 0) (sym begun) ∙ whole)
    ]

-- ---- lengths

pub digits_take : (k : ℕ) (os : List ℕ) → AreDigits 256 os → AreDigits 256 (take k os)
digits_take zero os h = tt
digits_take (suc k) [] h = tt
digits_take (suc k) (o ∷ os) h = (h.0, digits_take k os h.1)

pub digits_drop : (k : ℕ) (os : List ℕ) → AreDigits 256 os → AreDigits 256 (drop k os)
digits_drop zero os h = h
digits_drop (suc k) [] h = tt
digits_drop (suc k) (o ∷ os) h = digits_drop k os h.1

long_least : (k : ℕ) (os : List ℕ) → 1 ≤ k → k ≤ length os → AreDigits 256 os → (big_endian (take 1 os) ≡ 0 → ⊥) → AreLeast 256 256 (take k os)
long_least zero os some enough h first = absurd (omega arith)
long_least (suc k) [] some enough h first = absurd (omega arith)
long_least (suc zero) (o ∷ os) some enough h first = h.0
long_least (suc (suc k)) (o ∷ []) some enough h first = absurd (omega arith)
long_least (suc (suc k)) (zero ∷ b ∷ os) some enough h first = absurd (first (omega arith))
long_least (suc (suc k)) (suc o ∷ b ∷ os) some enough h first = (h.0, omega arith)

long_takes : (k : ℕ) (os : List ℕ) (n : ℕ) (rest : List ℕ) → AreDigits 256 os → 1 ≤ k → k ≤ 4 → long_length k os ≡ Ok (n, rest) → ((128 + k) ∷ os ≡ length_octets n ++ rest) × (n < 2 ^ 32)
unfolding long_length length_octets unsigned_octets
long_takes k os n rest octets some few e =
    let n0 = big_endian (take k os) in
    let a = guard_ok (ltb (length os) k) Truncated (cond (ltb n0 128 || eqb (big_endian (take 1 os)) 0) (Err NonMinimalLength) (read n0 (drop k os))) (n, rest) e in
    let b = guard_ok (ltb n0 128 || eqb (big_endian (take 1 os)) 0) NonMinimalLength (read n0 (drop k os)) (n, rest) a.1 in
    let pair = same_Ok (n0, drop k os) (n, rest) b.1 in
    let c = or_parts (ltb n0 128) (eqb (big_endian (take 1 os)) 0) b.0 in
    let enough : k ≤ length os = ltb-false (length os) k a.0 in
    let large : 128 ≤ n0 = ltb-false n0 128 c.0 in
    let len : length (take k os) ≡ k = omega (arith, length-take k os) in
    let digits = digits_take k os octets in
    let least = long_least k os some enough octets (eqb-false (big_endian (take 1 os)) 0 c.1) in
    let spelled : fewest 256 256 15 n0 ≡ take k os = least_fewest 256 256 15 (take k os) (omega arith) (omega arith) digits least (omega (arith, len)) in
    let bound = spell_bound 256 0 (take k os) digits in
    let power : 256 ^ length (take k os) ≤ 256 ^ 4 = pow-le-pow_right {n = 256} (omega arith) {i = length (take k os)} {j = 4} (omega (arith, len)) in
    let number : n0 ≡ n = ap (λ (p : ℕ × List ℕ). p.0) pair in
    let below : n0 < 2 ^ 32 = omega (arith, bound, power) in
    let octets_of : length_octets n0 ≡ (128 + k) ∷ take k os =
    cond-false (ltb n0 128) _ _ c.0 ∙ ap (λ (x : List ℕ). (128 + length x) ∷ x) spelled ∙ ap (λ (j : ℕ). (128 + j) ∷ take k os) len in
    (rw (← number, octets_of, ← ap (λ (p : ℕ × List ℕ). p.1) pair) (ap (λ (x : List ℕ). (128 + k) ∷ x) (sym (take-append-drop k os))), rw (← number) below)

pub length_takes : (os : List ℕ) (n : ℕ) (rest : List ℕ) → AreDigits 256 os → length_at os ≡ Ok (n, rest) → (os ≡ length_octets n ++ rest) × (n < 2 ^ 32)
unfolding length_at length_octets
length_takes [] n rest octets e = absurd cc
length_takes (o ∷ os) n rest octets e =
    elim (chosen (ltb o 128) (read o os) (cond (eqb o 128) (Err IndefiniteLength) (cond (ltb 132 o) (Err LengthTooLarge) (long_length (o - 128) os))) (Ok (n, rest)) e) [
      | inl low ↦
          let pair = same_Ok (o, os) (n, rest) low.1 in
          let small : o < 128 = ltb-true o 128 low.0 in
          (rw (← ap (λ (p : ℕ × List ℕ). p.0) pair, ← ap (λ (p : ℕ × List ℕ). p.1) pair, cond-true (ltb o 128) (o ∷ []) ((128 + length (unsigned_octets o)) ∷ unsigned_octets o) low.0) refl, rw (← ap (λ (p : ℕ × List ℕ). p.0) pair) (omega (arith, small)))
      | inr high ↦
          let a = guard_ok (eqb o 128) IndefiniteLength (cond (ltb 132 o) (Err LengthTooLarge) (long_length (o - 128) os)) (n, rest) high.1 in
          let b = guard_ok (ltb 132 o) LengthTooLarge (long_length (o - 128) os) (n, rest) a.1 in
          let ne : o ≡ 128 → ⊥ = eqb-false o 128 a.0 in
          let large : 128 ≤ o = ltb-false o 128 high.0 in
          let few : o ≤ 132 = ltb-false 132 o b.0 in
          let octet : 128 + (o - 128) ≡ o = omega arith in
          let l = long_takes (o - 128) os n rest octets.1 (omega (arith, ne)) (omega arith) b.1 in
          (ap (λ (x : ℕ). x ∷ os) (sym octet) ∙ l.0, l.1)
    ]

long_is : (k n first : ℕ) (os front rest : List ℕ) → k ≤ length os → take k os ≡ front → drop k os ≡ rest → big_endian (take 1 os) ≡ first → big_endian front ≡ n → 128 ≤ n → 1 ≤ first → long_length k os ≡ Ok (n, rest)
unfolding long_length
long_is k n first os front rest enough taken dropped begun number large some =
    let long : ltb (length os) k ≡ false = le-ltb (length os) k enough in
    let minimal : (ltb n 128 || eqb first 0) ≡ false = or_from (ltb n 128) (eqb first 0) (le-ltb n 128 large) (ne_eqb first 0 (λ e. absurd (omega (arith, e, some)))) in
    rw (long, taken, dropped, begun, number, minimal) refl

long_again : (ds rest : List ℕ) (n : ℕ) → AreDigits 256 ds → AreLeast 256 256 ds → spell 256 0 ds ≡ n → 128 ≤ n → long_length (length ds) (ds ++ rest) ≡ Ok (n, rest)
long_again ds rest n digits least number large =
    let f = first_some 256 ds digits least (omega (arith, number)) in
    long_is (length ds) n (0 * 256 + f.0) (ds ++ rest) ds rest (omega (arith, length-append ds rest)) (take_at ds rest (length ds) refl) (drop_at ds rest (length ds) refl)
    (ap (λ (x : List ℕ). big_endian (take 1 (x ++ rest))) f.2) number large (omega (arith, f.3))

pub length_again : (n : ℕ) (rest : List ℕ) → n < 2 ^ 32 → length_at (length_octets n ++ rest) ≡ Ok (n, rest)
unfolding length_at length_octets unsigned_octets
length_again n rest small =
    elim (cases_lt n 128) [
      | inl low ↦
          ap (λ (x : List ℕ). length_at (x ++ rest)) (cond-true (ltb n 128) (n ∷ []) ((128 + length (fewest 256 256 15 n)) ∷ fewest 256 256 15 n) (lt-ltb n 128 low))
          ∙ cond-true (ltb n 128) _ _ (lt-ltb n 128 low)
      | inr high ↦
          let ds : List ℕ = fewest 256 256 3 n in
          let below : n < 256 * 256 ^ 3 = small in
          let same : fewest 256 256 15 n ≡ ds = fewest_enough 256 256 12 3 n (omega arith) below in
          let digits = fewest_digits 256 256 3 n (omega arith) (omega arith) below in
          let least = fewest_least 256 256 3 n (omega arith) below in
          let few : length ds ≤ 4 = fewest_length 256 256 3 n in
          let k : (128 + length ds) - 128 ≡ length ds = omega arith in
          let f = first_some 256 ds digits least (omega (arith, fewest_spells 256 256 3 n)) in
          let some : 1 ≤ length ds = omega (arith, ap length f.2) in
          ap (λ (x : List ℕ). length_at (x ++ rest)) (cond-false (ltb n 128) (n ∷ []) ((128 + length (fewest 256 256 15 n)) ∷ fewest 256 256 15 n) (le-ltb n 128 high) ∙ ap (λ (x : List ℕ). (128 + length x) ∷ x) same)
          ∙ cond-false (ltb (128 + length ds) 128) _ _ (le-ltb (128 + length ds) 128 (omega arith))
          ∙ cond-false (eqb (128 + length ds) 128) _ _ (ne_eqb (128 + length ds) 128 (λ e. absurd (omega (arith, e, some))))
          ∙ cond-false (ltb 132 (128 + length ds)) _ _ (le-ltb 132 (128 + length ds) (omega (arith, few)))
          ∙ ap (λ (j : ℕ). long_length j (ds ++ rest)) k
          ∙ long_again ds rest n digits least (fewest_spells 256 256 3 n) high
    ]
