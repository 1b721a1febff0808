-- The octets of a number are the shortest that spell it.
use Rattle.std.proofs.Common.{◌≡◌, ℕ, ◌+◌, ◌-◌, ◌*◌, ◌/◌, ◌%◌, ◌^◌, ◌<◌, ◌≤◌, Bool, true, false, ltb, leb, eqb, List, [], ◌∷◌, ◌++◌, length, None, refl, sym, ap, ◌∙◌, arith, inl, inr}
use Rattle.std.specs.Prelude.{ℤ, pos, negsuc, ◌≢◌, IsTrue, ◌&&◌, ◌⊎◌, not, fold, flat_map}
use Rattle.std.proofs.lemmas.Bool.{cond-true, cond-false, lt-ltb, le-ltb, le-leb, leb-true, ltb-true, eqb-true, ne_eqb, cases_Bool, cases_lt, and_parts, and_from, or_cases}
use Rattle.std.proofs.lemmas.Nat.{div-add-mod'}
use Rattle.std.proofs.lemmas.List.{append-nil, length-map}
use Rattle.guard_model.specs.Limits.{fits_128_bits}
use Rattle.guard_der.specs.Octets.{fewest, signed_octets, base_128, twos_complement}
use Rattle.guard_der.specs.Fits.{all_below}
use Rattle.guard_der.specs.Shortest.{SpellInteger, SpellSubidentifier, is_series}
use Rattle.guard_der.specs.Simple.{nine_equal, integer_fault, are_subidentifiers, subidentifiers}
use Rattle.guard_der.proofs.Headers.TagsAndLengths.{marked}
use Rattle.guard_der.proofs.Numbers.Digits.{spell, AreDigits, digits_append, fewest_digits, fewest_spells, fewest_length}
use Rattle.guard_der.proofs.Numbers.Integers.{integer_takes, integer_again, turned_digits}
use Rattle.guard_der.proofs.Numbers.Subidentifiers.{single, several, takes_start}
use Rattle.guard_der.proofs.Simple.Laws.{all_octets}

digits_of : (os : List ℕ) → all_below 256 os ≡ true → AreDigits 256 os
digits_of [] e = tt
digits_of (o ∷ os) e = let p = and_parts (ltb o 256) (all_below 256 os) e in (ltb-true o 256 p.0, digits_of os p.1)

-- the same list, or a longer one
abbrev SameOrLonger : List ℕ → List ℕ → Type 0
SameOrLonger shortest os = (os ≡ shortest) ⊎ (length shortest < length os)

longer_still : (shortest : List ℕ) (o : ℕ) (os : List ℕ) → SameOrLonger shortest os → SameOrLonger shortest (o ∷ os)
longer_still shortest o os (inl same) = inr (omega (arith, ap length same))
longer_still shortest o os (inr longer) = inr (omega (arith, longer))

-- ---- integers

signed_digits : (z : ℤ) → fits_128_bits z ≡ true → AreDigits 256 (signed_octets z)
unfolding signed_octets
signed_digits (pos n) e = fewest_digits 256 128 15 n (omega arith) (omega arith) (ltb-true n (2 ^ 127) e)
signed_digits (negsuc n) e = turned_digits (fewest 256 128 15 n)

signed_length : (z : ℤ) → length (signed_octets z) ≤ 16
unfolding signed_octets
signed_length (pos n) = fewest_length 256 128 15 n
signed_length (negsuc n) = omega (arith, fewest_length 256 128 15 n, length-map (fewest 256 128 15 n) (λ (o : ℕ). 255 - o))

none_spell : {A : Type 0} (os : List ℕ) → integer_fault os ≡ None → os ≡ [] → A
none_spell [] e same = absurd cc
none_spell (o ∷ os) e same = absurd cc

pub integer_spelled : (z : ℤ) → IsTrue (fits_128_bits z) → SpellInteger z (signed_octets z)
integer_spelled z e =
    let again = integer_again z e in
    record { each = all_octets (signed_octets z) (signed_digits z e); some = λ same. none_spell (signed_octets z) again.0 same; value = again.1 }

zeros_alone : (b : ℕ) (os : List ℕ) → ltb b 128 ≡ true → twos_complement (0 ∷ b ∷ os) ≡ twos_complement (b ∷ os)
unfolding twos_complement
zeros_alone b os low = sym (cond-true (ltb b 128) _ _ low)

ones_alone : (b : ℕ) (os : List ℕ) → leb 128 b ≡ true → twos_complement (255 ∷ b ∷ os) ≡ twos_complement (b ∷ os)
unfolding twos_complement
ones_alone b os high = sym (cond-false (ltb b 128) _ _ (le-ltb b 128 (leb-true 128 b high)))

-- an octet of the sign's bits alone, before one that begins with this sign, adds nothing
sign_alone : (a b : ℕ) (os : List ℕ) → nine_equal (a ∷ b ∷ os) ≡ true → twos_complement (a ∷ b ∷ os) ≡ twos_complement (b ∷ os)
sign_alone a b os e = elim (or_cases (eqb a 0 && ltb b 128) (eqb a 255 && leb 128 b) e) [
  | inl zeros ↦
      let p = and_parts (eqb a 0) (ltb b 128) zeros in
      ap (λ (n : ℕ). twos_complement (n ∷ b ∷ os)) (eqb-true a 0 p.0) ∙ zeros_alone b os p.1
  | inr ones ↦
      let p = and_parts (eqb a 255) (leb 128 b) ones in
      ap (λ (n : ℕ). twos_complement (n ∷ b ∷ os)) (eqb-true a 255 p.0) ∙ ones_alone b os p.1
]

least_integer : (z : ℤ) (os : List ℕ) → IsTrue (fits_128_bits z) → AreDigits 256 os → os ≢ [] → twos_complement os ≡ z → SameOrLonger (signed_octets z) os
least_integer z [] fits digits some e = absurd (some refl)
least_integer z (o ∷ []) fits digits some e = inl (sym (integer_takes (o ∷ []) digits refl).0 ∙ ap signed_octets e)
least_integer z (a ∷ b ∷ os) fits digits some e = elim (cases_Bool (nine_equal (a ∷ b ∷ os))) [
  | inl nine ↦ longer_still (signed_octets z) a (b ∷ os) (least_integer z (b ∷ os) fits digits.1 (λ same. absurd cc) (sym (sign_alone a b os nine) ∙ e))
  | inr fine ↦ elim (cases_lt 16 (length (a ∷ b ∷ os))) [
    | inl long ↦ inr (omega (arith, signed_length z, long))
    | inr short ↦
        let no_fault : integer_fault (a ∷ b ∷ os) ≡ None = cond-false (nine_equal (a ∷ b ∷ os)) _ _ fine ∙ cond-false (ltb 16 (length (a ∷ b ∷ os))) _ _ (le-ltb 16 (length (a ∷ b ∷ os)) short) in
        inl (sym (integer_takes (a ∷ b ∷ os) digits no_fault).0 ∙ ap signed_octets e)
  ]
]

pub shortest_integer : (z : ℤ) (os : List ℕ) → IsTrue (fits_128_bits z) → SpellInteger z os → SameOrLonger (signed_octets z) os
shortest_integer z os fits s = least_integer z os fits (digits_of os s.each) s.some s.value

-- ---- subidentifiers

-- the number n with more lower seven bits after it
abbrev spell_low : ℕ → List ℕ → ℕ
spell_low n os = fold (λ (n o : ℕ). n * 128 + o % 128) n os

low_bits : (o : ℕ) → o < 128 → o % 128 ≡ o
low_bits o small = omega arith

marked_bits : (d : ℕ) → d < 128 → (128 + d) % 128 ≡ d
marked_bits d small = omega arith

marked_series : (n d : ℕ) (ds : List ℕ) → AreDigits 128 ds → d < 128 → (is_series (marked ds ++ d ∷ []) ≡ true) × (spell_low n (marked ds ++ d ∷ []) ≡ spell 128 n ds * 128 + d)
marked_series n d [] digits last = (lt-ltb d 128 last, ap (λ (k : ℕ). n * 128 + k) (low_bits d last))
marked_series n d (e ∷ []) digits last = (
  and_from (leb 128 (128 + e)) (ltb d 128) (le-leb 128 (128 + e) (omega arith)) (lt-ltb d 128 last),
  ap (λ (k : ℕ). (n * 128 + k) * 128 + d % 128) (marked_bits e digits.0) ∙ ap (λ (k : ℕ). (n * 128 + e) * 128 + k) (low_bits d last),
)
marked_series n d (e ∷ f ∷ ds) digits last =
    let rest = marked_series (n * 128 + e) d (f ∷ ds) digits.1 last in (
      and_from (leb 128 (128 + e)) (is_series (marked (f ∷ ds) ++ d ∷ [])) (le-leb 128 (128 + e) (omega arith)) rest.0,
      ap (λ (k : ℕ). spell_low (n * 128 + k) (marked (f ∷ ds) ++ d ∷ [])) (marked_bits e digits.0) ∙ rest.1,
    )

marked_digits : (ds : List ℕ) → AreDigits 128 ds → AreDigits 256 (marked ds)
marked_digits [] digits = tt
marked_digits (d ∷ ds) digits = (omega (arith, digits.0), marked_digits ds digits.1)

pub subidentifier_spelled : (n : ℕ) → n < 2 ^ 128 → SpellSubidentifier n (base_128 n)
subidentifier_spelled n small = elim (cases_lt n 128) [
  | inl low ↦
      let number : 0 * 128 + n % 128 ≡ n = omega arith in
      rw (single n low) (record { each = and_from (ltb n 256) true (lt-ltb n 256 (omega arith)) refl; series = lt-ltb n 128 low; value = number })
  | inr high ↦
      let below : n / 128 < 128 * 128 ^ 17 = omega (arith, div-add-mod' n 128) in
      let last : n % 128 < 128 = omega arith in
      let ds : List ℕ = fewest 128 128 17 (n / 128) in
      let digits : AreDigits 128 ds = fewest_digits 128 128 17 (n / 128) (omega arith) (omega arith) below in
      let s = marked_series 0 (n % 128) ds digits last in
      let number : spell 128 0 ds * 128 + n % 128 ≡ n = ap (λ (k : ℕ). k * 128 + n % 128) (fewest_spells 128 128 17 (n / 128)) ∙ div-add-mod' n 128 in
      rw (several n high) (record {
        each = all_octets (marked ds ++ (n % 128) ∷ []) (digits_append 256 (marked ds) ((n % 128) ∷ []) (marked_digits ds digits) (omega (arith, last), tt));
        series = s.0;
        value = s.1 ∙ number;
      })
]

-- one series is one subidentifier
series_read : (n : ℕ) (os : List ℕ) → AreDigits 256 os → is_series os ≡ true → (are_subidentifiers false os ≡ true) × (subidentifiers n os ≡ spell_low n os ∷ [])
series_read n [] digits e = absurd cc
series_read n (o ∷ []) digits e =
    (e, cond-true (ltb o 128) _ _ e ∙ ap (λ (k : ℕ). (n * 128 + k) ∷ []) (sym (low_bits o (ltb-true o 128 e))))
series_read n (o ∷ p ∷ os) digits e =
    let b = and_parts (leb 128 o) (is_series (p ∷ os)) e in
    let high : 128 ≤ o = leb-true 128 o b.0 in
    let more : ltb o 128 ≡ false = le-ltb o 128 high in
    let bits : o - 128 ≡ o % 128 = omega (arith, high, digits.0) in
    let rest = series_read (n * 128 + o % 128) (p ∷ os) digits.1 b.1 in (
      ap (λ (last : Bool). are_subidentifiers last (p ∷ os)) more ∙ rest.0,
      cond-false (ltb o 128) _ _ more ∙ ap (λ (k : ℕ). subidentifiers (n * 128 + k) (p ∷ os)) bits ∙ rest.1,
    )

least_series : (n o : ℕ) (os : List ℕ) → n < 2 ^ 128 → AreDigits 256 (o ∷ os) → eqb o 128 ≡ false → is_series (o ∷ os) ≡ true → spell_low 0 (o ∷ os) ≡ n → o ∷ os ≡ base_128 n
least_series n o os small digits some series e =
    let read = series_read 0 (o ∷ os) digits series in
    let starts : are_subidentifiers true (o ∷ os) ≡ true = and_from (not (eqb o 128)) (are_subidentifiers (ltb o 128) os) (ap not some) read.0 in
    let number : subidentifiers 0 (o ∷ os) ≡ n ∷ [] = read.1 ∙ ap (λ (k : ℕ). k ∷ []) e in
    let below : all_below (2 ^ 128) (subidentifiers 0 (o ∷ os)) ≡ true = rw number (and_from (ltb n (2 ^ 128)) true (lt-ltb n (2 ^ 128) small) refl) in
    sym (takes_start (o ∷ os) digits starts below) ∙ ap (flat_map base_128) number ∙ append-nil (base_128 n)

least_subidentifier : (n : ℕ) (os : List ℕ) → n < 2 ^ 128 → AreDigits 256 os → is_series os ≡ true → spell_low 0 os ≡ n → SameOrLonger (base_128 n) os
least_subidentifier n [] small digits series e = absurd cc
least_subidentifier n (o ∷ []) small digits series e =
    let some : eqb o 128 ≡ false = ne_eqb o 128 (λ same. absurd (omega (arith, same, ltb-true o 128 series))) in
    inl (least_series n o [] small digits some series e)
least_subidentifier n (o ∷ p ∷ os) small digits series e = elim (cases_Bool (eqb o 128)) [
  | inl zeros ↦
      let number : 0 * 128 + o % 128 ≡ 0 = ap (λ (k : ℕ). 0 * 128 + k % 128) (eqb-true o 128 zeros) in
      let rest : spell_low 0 (p ∷ os) ≡ n = ap (λ (k : ℕ). spell_low k (p ∷ os)) (sym number) ∙ e in
      longer_still (base_128 n) o (p ∷ os) (least_subidentifier n (p ∷ os) small digits.1 (and_parts (leb 128 o) (is_series (p ∷ os)) series).1 rest)
  | inr some ↦ inl (least_series n o (p ∷ os) small digits some series e)
]

pub shortest_subidentifier : (n : ℕ) (os : List ℕ) → n < 2 ^ 128 → SpellSubidentifier n os → SameOrLonger (base_128 n) os
shortest_subidentifier n os small s = least_subidentifier n os small (digits_of os s.each) s.series s.value
