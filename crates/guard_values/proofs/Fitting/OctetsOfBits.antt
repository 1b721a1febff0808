-- The octets of digits: each is below 256, and the last one is filled with zeros.
use Rattle.std.proofs.Common.{◌≡◌, ℕ, zero, suc, ◌+◌, ◌-◌, ◌*◌, ◌/◌, ◌%◌, ◌^◌, ◌<◌, ◌≤◌, Bool, true, false, cond, inl, inr, List, [], ◌∷◌, length, map, drop, refl, sym, ap, ◌∙◌, subst, arith, length-drop, pow-add}
use Rattle.std.specs.Prelude.{nat_lt, filter}
use Rattle.std.proofs.Math.Nat.{pow-zero, pow-suc, mul-le-mul_right, mul-mod_left, mul-div_cancel}
use Rattle.std.proofs.lemmas.Bool.{and_from}
use Rattle.std.proofs.lemmas.Grind.{common_steps}
use Rattle.guard_model.specs.AbstractType as type
use Rattle.guard_der.specs.Fits.{all_below, last_octet, has_proper_end, has_zero_end, fits_bits, has_no_trailing_zero, fits_kind}
use Rattle.guard_model.specs.AbstractType.{NamedNumber}
use Rattle.guard_values.specs.NamedBits.{ones_at, bits_kept}
use Rattle.guard_values.specs.Strings.{is_binary_digit, is_hexadecimal_digit, digit_value, binary_digits, hexadecimal_digits, bits_of_digits, hexadecimal_bits, filled, packed, octets_of_bits}
use Rattle.guard_values.specs.Simple.{bits_value}
use Rattle.guard_values.proofs.SingleValues.NamedBits.{AreBits, EndsInOne, ones_small, ones_end, last_one_small, last_one_end}
use Rattle.guard_values.proofs.SingleValues.DigitsInOctets.{binary_below, hexadecimal_below, bits_below}

-- each digit is below the base
abbrev pub Small : ℕ → List ℕ → Type 0
Small base [] = Unit {0}
Small base (d ∷ ds) = (d < base) × Small base ds

small_after : (base n : ℕ) (ds : List ℕ) → Small base ds → Small base (drop n ds)
small_after base zero ds h = h
small_after base (suc n) [] h = tt
small_after base (suc n) (d ∷ ds) h = small_after base n ds h.1

one_kept : (base : ℕ) (test : ℕ → Bool) → ((o : ℕ) → test o ≡ true → digit_value o < base) → (o : ℕ) (os : List ℕ) (b : Bool) → test o ≡ b → Small base (map digit_value (filter test os))
    → Small base (map digit_value (cond b (o ∷ filter test os) (filter test os)))
one_kept base test below o os true e others = (below o e, others)
one_kept base test below o os false e others = others

small_kept : (base : ℕ) (test : ℕ → Bool) → ((o : ℕ) → test o ≡ true → digit_value o < base) → (os : List ℕ) → Small base (map digit_value (filter test os))
small_kept base test below [] = tt
small_kept base test below (o ∷ os) = one_kept base test below o os (test o) refl (small_kept base test below os)

below_octet : (n : ℕ) → n < 256 → nat_lt n 256 ≡ true
below_octet n lt = grind (arith, common_steps)

one_group : (rest missing groups places whole : ℕ) → rest + missing ≡ groups * places → whole ≡ rest + places → whole + missing ≡ (groups + 1) * places
one_group rest missing groups places whole e is = omega (arith, e, is)

-- ---- one octet

filled_nothing : (base places : ℕ) → filled base places [] ≡ 0
filled_nothing base zero = refl
filled_nothing base (suc places) = refl

pub filled_small : (base places : ℕ) (ds : List ℕ) → 1 ≤ base → Small base ds → filled base places ds < base ^ places
filled_small base zero ds pos small = rw (pow-zero base) (omega arith)
filled_small base (suc places) [] pos small =
    let power : base ^ suc places ≡ base ^ places * base = pow-suc base places in
    let none : filled base places [] ≡ 0 = filled_nothing base places in
    let inside : filled base places [] < base ^ places = filled_small base places [] pos tt in
    let most : 1 * base ^ places ≤ base * base ^ places = mul-le-mul_right (base ^ places) pos in
    rw power (omega (arith, inside, most, none))
filled_small base (suc places) (d ∷ ds) pos small =
    let power : base ^ suc places ≡ base ^ places * base = pow-suc base places in
    let inside : filled base places ds < base ^ places = filled_small base places ds pos small.1 in
    let most : (d + 1) * base ^ places ≤ base * base ^ places = mul-le-mul_right (base ^ places) (omega (arith, small.0)) in
    rw power (omega (arith, inside, most))

scaled_first : (d first power rest : ℕ) → d * (first * power) + rest * power ≡ (d * first + rest) * power
scaled_first d first power rest = omega arith

-- digits that are missing after the last one are zeros
scaled : (base n missing total : ℕ) (ds : List ℕ) → length ds ≡ n → total ≡ n + missing → filled base total ds ≡ filled base n ds * base ^ missing
scaled base n missing total [] count is =
    let none : filled base n [] ≡ 0 = filled_nothing base n in
    filled_nothing base total ∙ (rw none (omega arith))
scaled base zero missing total (d ∷ ds) count is = absurd (omega (arith, count))
scaled base (suc n) missing zero (d ∷ ds) count is = absurd (omega (arith, is))
scaled base (suc n) missing (suc total) (d ∷ ds) count is =
    let rest : filled base total ds ≡ filled base n ds * base ^ missing = scaled base n missing total ds (omega (arith, count)) (omega (arith, is)) in
    let same : total ≡ n + missing = omega (arith, is) in
    let power : base ^ total ≡ base ^ n * base ^ missing = ap (λ (k : ℕ). base ^ k) same ∙ pow-add base n missing in
    rw (rest, power) (scaled_first d (base ^ n) (base ^ missing) (filled base n ds))

-- ---- all octets

pub octets_below : (base places n : ℕ) (ds : List ℕ) → 1 ≤ base → base ^ places ≡ 256 → Small base ds → all_below 256 (packed base places n ds) ≡ true
octets_below base places n [] pos octet small = none n where
  none : (n : ℕ) → all_below 256 (packed base places n []) ≡ true
  none zero = refl
  none (suc n) = refl
octets_below base places zero (d ∷ ds) pos octet small = refl
octets_below base places (suc n) (d ∷ ds) pos octet small =
    let first : filled base places (d ∷ ds) < base ^ places = filled_small base places (d ∷ ds) pos small in
    let below : nat_lt (filled base places (d ∷ ds)) 256 ≡ true = below_octet (filled base places (d ∷ ds)) (omega (arith, first, octet)) in
    and_from (nat_lt (filled base places (d ∷ ds)) 256) (all_below 256 (packed base places n (drop places (d ∷ ds)))) below (octets_below base places n (drop places (d ∷ ds)) pos octet (small_after base places (d ∷ ds) small))

packed_none : (base places n : ℕ) → packed base places n [] ≡ []
packed_none base places zero = refl
packed_none base places (suc n) = refl

pub some_octets : (base places n : ℕ) (ds : List ℕ) → 1 ≤ n → 1 ≤ length ds → 1 ≤ length (packed base places n ds)
some_octets base places n [] le ge = absurd (omega (arith, ge))
some_octets base places zero (d ∷ ds) le ge = absurd (omega (arith, le))
some_octets base places (suc n) (d ∷ ds) le ge = omega arith

last_after : (o : ℕ) (os : List ℕ) → 1 ≤ length os → last_octet (o ∷ os) ≡ last_octet os
last_after o [] le = absurd (omega (arith, le))
last_after o (p ∷ os) le = refl

-- ---- the last octet

even_front : (d p f last : ℕ) → f % 2 ≡ last → (d * (p * 2) + f) % 2 ≡ last
even_front d p f last e = let x : d * (p * 2) ≡ 2 * (d * p) = omega arith in rw x (omega (arith, e))

-- a number of bits is odd where the last bit is one
filled_last : (n : ℕ) (ds : List ℕ) → length ds ≡ n → 1 ≤ n → AreBits ds → filled 2 n ds % 2 ≡ last_octet ds
filled_last zero ds e le small = absurd (omega (arith, le))
filled_last (suc n) [] e le small = absurd (omega (arith, e))
filled_last (suc zero) (d ∷ []) e le small = let lt : d < 2 = small.0 in omega (arith, lt)
filled_last (suc (suc n)) (d ∷ []) e le small = absurd (omega (arith, e))
filled_last (suc zero) (d ∷ f ∷ ds) e le small = absurd (omega (arith, e))
filled_last (suc (suc n)) (d ∷ f ∷ ds) e le small =
    let rest : filled 2 (suc n) (f ∷ ds) % 2 ≡ last_octet (f ∷ ds) = filled_last (suc n) (f ∷ ds) (omega (arith, e)) (omega arith) small.1 in
    let power : 2 ^ suc n ≡ 2 ^ n * 2 = pow-suc 2 n in
    ap (λ (q : ℕ). (d * q + filled 2 (suc n) (f ∷ ds)) % 2) power ∙ even_front d (2 ^ n) (filled 2 (suc n) (f ∷ ds)) (last_octet (f ∷ ds)) rest

last_dropped : (n : ℕ) (ds : List ℕ) (r : ℕ) (rs : List ℕ) → drop n ds ≡ r ∷ rs → last_octet ds ≡ last_octet (r ∷ rs)
last_dropped zero ds r rs e = ap last_octet e
last_dropped (suc n) [] r rs e = absurd cc
last_dropped (suc n) (d ∷ ds) r rs e =
    let count : length (r ∷ rs) ≡ length ds - n = ap length (sym e) ∙ length-drop n ds in
    last_after d ds (omega (arith, count)) ∙ last_dropped n ds r rs e

pub bits_after : (n : ℕ) (ds : List ℕ) → AreBits ds → AreBits (drop n ds)
bits_after zero ds h = h
bits_after (suc n) [] h = tt
bits_after (suc n) (d ∷ ds) h = bits_after n ds h.1

-- how many bits are missing after the last one, and that the last octet is filled with as many zeros
record LastIsFilled (places n : ℕ) (ds : List ℕ) : Type 0 where
  missing : ℕ
  groups : ℕ
  number : ℕ
  count : length ds + missing ≡ groups * places
  few : missing < places
  is : last_octet (packed 2 places n ds) ≡ number * 2 ^ missing
  last : number % 2 ≡ last_octet ds

last_is_filled : (places n : ℕ) (ds : List ℕ) → 1 ≤ places → length ds ≤ n → 1 ≤ length ds → AreBits ds → LastIsFilled places n ds
last_is_filled places n [] pos le ge small = absurd (omega (arith, ge))
last_is_filled places zero (d ∷ ds) pos le ge small = absurd (omega (arith, le))
last_is_filled places (suc n) (d ∷ ds) pos le ge small = here (drop places (d ∷ ds)) refl (λ rest short long bits. last_is_filled places n rest pos short long bits) where
  here : (rest : List ℕ) → drop places (d ∷ ds) ≡ rest → ((rest : List ℕ) → length rest ≤ n → 1 ≤ length rest → AreBits rest → LastIsFilled places n rest) → LastIsFilled places (suc n) (d ∷ ds)
  here [] none inside =
      let all : length (d ∷ ds) - places ≡ 0 = sym (length-drop places (d ∷ ds)) ∙ ap length none in
      let within : length (d ∷ ds) ≤ places = omega (arith, all) in
      let alone : packed 2 places (suc n) (d ∷ ds) ≡ filled 2 places (d ∷ ds) ∷ [] = ap (λ (rest : List ℕ). filled 2 places (d ∷ ds) ∷ packed 2 places n rest) none ∙ ap (λ (os : List ℕ). filled 2 places (d ∷ ds) ∷ os) (packed_none 2 places n) in
      record {
        missing = places - length (d ∷ ds);
        groups = 1;
        number = filled 2 (length (d ∷ ds)) (d ∷ ds);
        count = omega (arith, within);
        few = omega (arith, ge, pos);
        is = ap last_octet alone ∙ scaled 2 (length (d ∷ ds)) (places - length (d ∷ ds)) places (d ∷ ds) refl (omega (arith, within));
        last = filled_last (length (d ∷ ds)) (d ∷ ds) refl ge small;
      }
  here (r ∷ rs) some inside =
      let after : length (r ∷ rs) ≡ length (d ∷ ds) - places = ap length (sym some) ∙ length-drop places (d ∷ ds) in
      let long : 1 ≤ length (r ∷ rs) = omega arith in
      let short : length (r ∷ rs) ≤ n = omega (arith, after, le, pos, long) in
      let later = inside (r ∷ rs) short long (subst AreBits some (bits_after places (d ∷ ds) small)) in
      let octets : packed 2 places (suc n) (d ∷ ds) ≡ filled 2 places (d ∷ ds) ∷ packed 2 places n (r ∷ rs) = ap (λ (rest : List ℕ). filled 2 places (d ∷ ds) ∷ packed 2 places n rest) some in
      let more : 1 ≤ length (packed 2 places n (r ∷ rs)) = some_octets 2 places n (r ∷ rs) (omega (arith, short, long)) long in
      record {
        missing = later.missing;
        groups = later.groups + 1;
        number = later.number;
        count = one_group (length (r ∷ rs)) later.missing later.groups places (length (d ∷ ds)) later.count (omega (arith, after, long));
        few = later.few;
        is = ap last_octet octets ∙ last_after (filled 2 places (d ∷ ds)) (packed 2 places n (r ∷ rs)) more ∙ later.is;
        last = later.last ∙ sym (last_dropped places (d ∷ ds) r rs some);
      }

-- ---- strings of bits and of hexadecimal digits

zero_end : (os : List ℕ) (number unused : ℕ) → last_octet os ≡ number * 2 ^ unused → has_zero_end os unused ≡ true
zero_end os number unused e =
    let none : last_octet os % 2 ^ unused ≡ 0 = ap (λ (n : ℕ). n % 2 ^ unused) e ∙ mul-mod_left number (2 ^ unused) in
    rw none refl

proper_end : (os : List ℕ) (unused : ℕ) → unused ≤ 7 → 1 ≤ length os → has_proper_end os unused ≡ true
proper_end os unused le ge = grind (arith, common_steps)

power_there : (n : ℕ) → 0 < 2 ^ n
power_there zero = omega arith
power_there (suc n) = let power : 2 ^ suc n ≡ 2 ^ n * 2 = pow-suc 2 n in let rest : 0 < 2 ^ n = power_there n in omega (arith, power, rest)

one_end : (os : List ℕ) (number unused : ℕ) → last_octet os ≡ number * 2 ^ unused → number % 2 ≡ 1 → has_no_trailing_zero os unused ≡ true
one_end [] number unused e odd = refl
one_end (o ∷ os) number unused e odd =
    let whole : last_octet (o ∷ os) / 2 ^ unused ≡ number = ap (λ (n : ℕ). n / 2 ^ unused) e ∙ mul-div_cancel number (power_there unused) in
    rw (whole, odd) refl

unused_bits : (count missing groups : ℕ) → count + missing ≡ groups * 8 → missing < 8 → (8 - count % 8) % 8 ≡ missing
unused_bits count missing groups e few = omega (arith, e, few)

small_bits : (ds : List ℕ) → Small 2 ds → AreBits ds
small_bits [] h = tt
small_bits (d ∷ ds) h = (h.0, small_bits ds h.1)

pub bits_small : (ds : List ℕ) → AreBits ds → Small 2 ds
bits_small [] h = tt
bits_small (d ∷ ds) h = (h.0, bits_small ds h.1)

pub binary_small : (spelling : List ℕ) → AreBits (binary_digits spelling)
binary_small spelling = small_bits (binary_digits spelling) (small_kept 2 is_binary_digit binary_below spelling)

digits_small : (ds : List ℕ) → Small 16 ds → AreBits (bits_of_digits ds)
digits_small [] small = tt
digits_small (d ∷ ds) small = let b = bits_below d small.0 in (b.0, (b.1, (b.2, (b.3, digits_small ds small.1))))

pub hexadecimal_small : (spelling : List ℕ) → AreBits (hexadecimal_bits spelling)
hexadecimal_small spelling = digits_small (hexadecimal_digits spelling) (small_kept 16 is_hexadecimal_digit hexadecimal_below spelling)

pub octets_fit : (ds : List ℕ) → AreBits ds → all_below 256 (octets_of_bits ds) ≡ true
octets_fit ds small = octets_below 2 8 (length ds) ds (omega arith) refl (bits_small ds small)

fits_all : (os : List ℕ) (unused : ℕ) → all_below 256 os ≡ true → has_proper_end os unused ≡ true → has_zero_end os unused ≡ true → fits_bits os unused ≡ true
fits_all os unused e f g = rw (e, f, g) refl

bits_filled : (d : ℕ) (ds : List ℕ) → AreBits (d ∷ ds) → LastIsFilled 8 (length (d ∷ ds)) (d ∷ ds)
bits_filled d ds small = last_is_filled 8 (length (d ∷ ds)) (d ∷ ds) (omega arith) (omega arith) (omega arith) small

all_fit : (d : ℕ) (ds : List ℕ) → AreBits (d ∷ ds) → fits_bits (octets_of_bits (d ∷ ds)) ((8 - length (d ∷ ds) % 8) % 8) ≡ true
all_fit d ds small =
    let l = bits_filled d ds small in
    let unused : (8 - length (d ∷ ds) % 8) % 8 ≡ l.missing = unused_bits (length (d ∷ ds)) l.missing l.groups l.count l.few in
    let some : 1 ≤ length (octets_of_bits (d ∷ ds)) = some_octets 2 8 (length (d ∷ ds)) (d ∷ ds) (omega arith) (omega arith) in
    ap (fits_bits (octets_of_bits (d ∷ ds))) unused
    ∙ fits_all (octets_of_bits (d ∷ ds)) l.missing (octets_fit (d ∷ ds) small)
    (proper_end (octets_of_bits (d ∷ ds)) l.missing (let few = l.few in omega (arith, few)) some) (zero_end (octets_of_bits (d ∷ ds)) l.number l.missing l.is)

-- with no named bits
plain_fit : (ds : List ℕ) → AreBits ds → fits_kind (type.bit_string []) (bits_value ds) ≡ true
plain_fit [] small = refl
plain_fit (d ∷ ds) small = and_from (fits_bits (octets_of_bits (d ∷ ds)) ((8 - length (d ∷ ds) % 8) % 8)) true (all_fit d ds small) refl

-- with named bits
ending_fit : (name : NamedNumber) (names : List NamedNumber) (ds : List ℕ) → AreBits ds → EndsInOne ds → fits_kind (type.bit_string (name ∷ names)) (bits_value ds) ≡ true
ending_fit name names [] small h = refl
ending_fit name names (d ∷ ds) small (inl e) = absurd cc
ending_fit name names (d ∷ ds) small (inr e) =
    let l = bits_filled d ds small in
    let unused : (8 - length (d ∷ ds) % 8) % 8 ≡ l.missing = unused_bits (length (d ∷ ds)) l.missing l.groups l.count l.few in
    and_from (fits_bits (octets_of_bits (d ∷ ds)) ((8 - length (d ∷ ds) % 8) % 8)) (has_no_trailing_zero (octets_of_bits (d ∷ ds)) ((8 - length (d ∷ ds) % 8) % 8)) (all_fit d ds small)
    (ap (has_no_trailing_zero (octets_of_bits (d ∷ ds))) unused ∙ one_end (octets_of_bits (d ∷ ds)) l.number l.missing l.is (l.last ∙ e))

pub kept_fit : (names : List NamedNumber) (ds : List ℕ) → AreBits ds → fits_kind (type.bit_string names) (bits_value (bits_kept names ds)) ≡ true
kept_fit [] ds small = plain_fit ds small
kept_fit (name ∷ names) ds small = ending_fit name names _ (last_one_small ds small) (last_one_end ds small)

pub named_fit : (name : NamedNumber) (names : List NamedNumber) (places : List ℕ) → fits_kind (type.bit_string (name ∷ names)) (bits_value (ones_at places)) ≡ true
named_fit name names places = ending_fit name names (ones_at places) (ones_small places) (ones_end places)
