-- What strings of digits and names of bits say: the bits of the value.
use Rattle.std.proofs.Common.{◌≡◌, ℕ, zero, suc, ◌+◌, ◌-◌, ◌*◌, ◌/◌, ◌%◌, ◌^◌, ◌<◌, ◌≤◌, Bool, true, false, ◌&&◌, ◌||◌, ℤ, pos, List, [], ◌∷◌, ◌++◌, map, filter, flat_map, length, take, Option, Some, None, is_some, option_and_then, bytes_eq, nat_lt, nat_le, nat_eq, refl, sym, ap, subst, ◌∙◌, inl, inr, arith}
use Rattle.std.proofs.lemmas.Bool.{and_parts, cases_Bool, cond-true, cond-false, false≢true, or_cases, eqb-true}
use Rattle.std.proofs.lemmas.Bool.Decides.{nat_tests}
use Rattle.std.proofs.lemmas.List.{length-take, take_all}
use Rattle.std.proofs.lemmas.Option.{same_Some, none-some}
use Rattle.guard_model.proofs.Tests.{chosen}
use Rattle.guard_model.specs.AbstractType.{NamedNumber}
use Rattle.guard_model.specs.AbstractValue as value
use Rattle.guard_model.specs.AbstractValue.{AbstractValue}
use Rattle.guard_model.specs.Limits.{greatest_bit}
use Rattle.guard_der.specs.Fits.{all_below, last_octet, has_proper_end, has_zero_end, has_no_trailing_zero, ends_as_named, fits_bits}
use Rattle.guard_model.specs.NamedLists.{number_named}
use Rattle.guard_values.specs.Strings.{is_binary_digit, is_hexadecimal_digit, digit_value, binary_digits, bits_of_digits, hexadecimal_bits, packed}
use Rattle.guard_values.specs.NamedBits.{place_of_bit, named_bit, places_named, one_more, ones_at, to_last_one, bits_kept}
use Rattle.guard_values.specs.Simple.{bits_value}
use Rattle.guard_report.specs.Text.{name_or_number}
use Rattle.guard_report.specs.Strings.{digit, two_digits, hexadecimal, eight_bits, without_last, bits_of, bit_digit, binary, name_of, are_named, names_of_ones}
use Rattle.reads_back.specs.Names.{HaveNames, AreBits}
use Rattle.reads_back.specs.inside.TreeOf.{names_written}
use Rattle.reads_back.proofs.Named.{some_named}
use Rattle.reads_back.proofs.OctetBits.{count_bits, octets_again}
use Rattle.reads_back.proofs.OneBits.{Bits, Ends, left_small, octets_end, kept_whole, ones_from, ones_again}

-- ---- hexadecimal digits

keeps : (test : ℕ → Bool) (x : ℕ) (xs : List ℕ) → test x ≡ true → filter test (x ∷ xs) ≡ x ∷ filter test xs
keeps test x xs h = cond-true (test x) (x ∷ filter test xs) (filter test xs) h

hex_is : (n : ℕ) → n < 16 → is_hexadecimal_digit (digit n) ≡ true
hex_is n h =
    elim (cases_Bool (nat_lt n 10)) [
      | inl low ↦ rw low (let lt : n < 10 = grind (arith, nat_tests, low) in grind (arith, nat_tests, lt))
      | inr high ↦ rw high (let ge : 10 ≤ n = grind (arith, nat_tests, high) in grind (arith, nat_tests, ge, h))
    ]

hex_value : (n : ℕ) → n < 16 → digit_value (digit n) ≡ n
hex_value n h =
    elim (cases_Bool (nat_lt n 10)) [
      | inl low ↦
          let lt : n < 10 = grind (arith, nat_tests, low) in
          let test : nat_le (48 + n) 57 ≡ true = grind (arith, nat_tests, lt) in
          ap digit_value (cond-true (nat_lt n 10) (48 + n) (55 + n) low) ∙ cond-true (nat_le (48 + n) 57) ((48 + n) - 48) ((48 + n) - 55) test ∙ omega arith
      | inr high ↦
          let ge : 10 ≤ n = grind (arith, nat_tests, high) in
          let test : nat_le (55 + n) 57 ≡ false = grind (arith, nat_tests, ge) in
          ap digit_value (cond-false (nat_lt n 10) (48 + n) (55 + n) high) ∙ cond-false (nat_le (55 + n) 57) ((55 + n) - 48) ((55 + n) - 55) test ∙ omega arith
    ]

abbrev nibbles : ℕ → List ℕ
nibbles o = o / 16 ∷ o % 16 ∷ []

hex_digits : (octets : List ℕ) → all_below 256 octets ≡ true → map digit_value (filter is_hexadecimal_digit (flat_map two_digits octets ++ 39 ∷ 72 ∷ [])) ≡ flat_map nibbles octets
hex_digits [] h = refl
hex_digits (o ∷ os) h =
    let p = and_parts (nat_lt o 256) (all_below 256 os) h in
    let lt : o < 256 = grind (arith, nat_tests, p.0) in
    let high : o / 16 < 16 = omega (arith, lt) in
    let low : o % 16 < 16 = omega arith in
    let tail = flat_map two_digits os ++ 39 ∷ 72 ∷ [] in
    let kept : filter is_hexadecimal_digit (digit (o / 16) ∷ digit (o % 16) ∷ tail) ≡ digit (o / 16) ∷ digit (o % 16) ∷ filter is_hexadecimal_digit tail =
    keeps is_hexadecimal_digit (digit (o / 16)) (digit (o % 16) ∷ tail) (hex_is (o / 16) high) ∙ ap (λ (xs : List ℕ). digit (o / 16) ∷ xs) (keeps is_hexadecimal_digit (digit (o % 16)) tail (hex_is (o % 16) low)) in
    let others : map digit_value (filter is_hexadecimal_digit tail) ≡ flat_map nibbles os = hex_digits os p.1 in
    ap (map digit_value) kept ∙ (λ i. hex_value (o / 16) high i ∷ hex_value (o % 16) low i ∷ others i)

four7 : (o : ℕ) → o / 16 / 8 ≡ o / 128
four7 o = omega arith

four6 : (o : ℕ) → o / 16 / 4 % 2 ≡ o / 64 % 2
four6 o = omega arith

four5 : (o : ℕ) → o / 16 / 2 % 2 ≡ o / 32 % 2
four5 o = omega arith

four3 : (o : ℕ) → (o % 16) / 8 ≡ o / 8 % 2
four3 o = omega arith

four2 : (o : ℕ) → (o % 16) / 4 % 2 ≡ o / 4 % 2
four2 o = omega arith

four1 : (o : ℕ) → (o % 16) / 2 % 2 ≡ o / 2 % 2
four1 o = omega arith

four0 : (o : ℕ) → (o % 16) % 2 ≡ o % 2
four0 o = omega arith

eight_each : (octets : List ℕ) → bits_of_digits (flat_map nibbles octets) ≡ flat_map eight_bits octets
eight_each [] = refl
eight_each (o ∷ os) =
    let others : bits_of_digits (flat_map nibbles os) ≡ flat_map eight_bits os = eight_each os in
    λ i. four7 o i ∷ four6 o i ∷ four5 o i ∷ o / 16 % 2 ∷ four3 o i ∷ four2 o i ∷ four1 o i ∷ four0 o i ∷ others i

no_fewer : (bits : List ℕ) → without_last 0 bits ≡ bits
no_fewer bits = take_all (length bits - 0) bits (omega arith)

pub hexadecimal_said : (octets : List ℕ) → all_below 256 octets ≡ true → hexadecimal_bits (hexadecimal octets) ≡ bits_of octets 0
hexadecimal_said octets h = ap bits_of_digits (hex_digits octets h) ∙ eight_each octets ∙ sym (no_fewer (flat_map eight_bits octets))

-- ---- binary digits

pub binary_from : (bits : List ℕ) → Bits bits → map digit_value (filter is_binary_digit (map bit_digit bits ++ 39 ∷ 66 ∷ [])) ≡ bits
binary_from [] h = refl
binary_from (zero ∷ bits) h = let others = binary_from bits h.1 in ap (λ (xs : List ℕ). 0 ∷ xs) others
binary_from (suc b ∷ bits) h =
    let others : map digit_value (filter is_binary_digit (map bit_digit bits ++ 39 ∷ 66 ∷ [])) ≡ bits = binary_from bits h.1 in
    let one : 1 ≡ suc b = omega (arith, h.0) in
    λ i. one i ∷ others i

pub binary_said : (octets : List ℕ) (unused : ℕ) → all_below 256 octets ≡ true → binary_digits (binary (bits_of octets unused)) ≡ bits_of octets unused
binary_said octets unused h = binary_from (bits_of octets unused) (left_small octets unused h)

-- ---- octets

nothing_taken : (n : ℕ) → take {A = ℕ} n [] ≡ []
nothing_taken zero = refl
nothing_taken (suc n) = refl

at_most_seven : (octets : List ℕ) (unused : ℕ) → has_proper_end octets unused ≡ true → unused ≤ 7
at_most_seven octets unused h = let p = (and_parts (nat_le unused 7) (nat_eq unused 0 || nat_lt 0 (length octets)) h).0 in grind (arith, nat_tests, p)

none_unused : (unused : ℕ) → has_proper_end [] unused ≡ true → 0 ≡ unused
none_unused unused h =
    let p = (and_parts (nat_le unused 7) (nat_eq unused 0 || nat_lt 0 0) h).1 in
    elim (or_cases (nat_eq unused 0) false p) [ inl e ↦ grind (arith, nat_tests, e) | inr e ↦ absurd (false≢true e) ]

still_unused : (count total unused : ℕ) → count + unused ≡ 8 * total → unused ≤ 7 → (8 - count % 8) % 8 ≡ unused
still_unused count total unused e h = omega (arith, e, h)

value_of : (octets : List ℕ) (unused n : ℕ) → unused ≤ 7 → 1 ≤ length octets → last_octet octets % 2 ^ unused ≡ 0 → n ≡ length (bits_of octets unused)
    → (packed 2 8 n (bits_of octets unused) ≡ octets) × ((8 - n % 8) % 8 ≡ unused)
value_of octets unused n h some e is =
    let total : length (flat_map eight_bits octets) ≡ 8 * length octets = count_bits octets in
    let taken = length-take (length (flat_map eight_bits octets) - unused) (flat_map eight_bits octets) in
    let count : n + unused ≡ 8 * length octets = omega (arith, is, total, taken, h, some) in
    (octets_again octets unused n h some e (omega (arith, count, h, some)), still_unused n (length octets) unused count h)

pub bits_again : (octets : List ℕ) (unused : ℕ) → fits_bits octets unused ≡ true → bits_value (bits_of octets unused) ≡ value.bit_string octets unused
bits_again [] unused h =
    let p = and_parts (all_below 256 [] && has_proper_end [] unused) (has_zero_end [] unused) h in
    let none : 0 ≡ unused = none_unused unused (and_parts (all_below 256 []) (has_proper_end [] unused) p.0).1 in
    subst (λ (u : ℕ). bits_value (bits_of [] u) ≡ value.bit_string [] u) none refl
bits_again (o ∷ os) unused h =
    let p = and_parts (all_below 256 (o ∷ os) && has_proper_end (o ∷ os) unused) (has_zero_end (o ∷ os) unused) h in
    let q = (and_parts (all_below 256 (o ∷ os)) (has_proper_end (o ∷ os) unused) p.0).1 in
    let zeros : last_octet (o ∷ os) % 2 ^ unused ≡ 0 = eqb-true (last_octet (o ∷ os) % 2 ^ unused) 0 p.1 in
    let v = value_of (o ∷ os) unused (length (bits_of (o ∷ os) unused)) (at_most_seven (o ∷ os) unused q) (omega arith) zeros refl in
    λ i. value.bit_string (v.0 i) (v.1 i)

-- ---- trailing zeros

bits_end : (o : ℕ) (os : List ℕ) (unused : ℕ) → fits_bits (o ∷ os) unused ≡ true → has_no_trailing_zero (o ∷ os) unused ≡ true → Ends (bits_of (o ∷ os) unused)
bits_end o os unused h last =
    let p = and_parts (all_below 256 (o ∷ os) && has_proper_end (o ∷ os) unused) (has_zero_end (o ∷ os) unused) h in
    let q = and_parts (all_below 256 (o ∷ os)) (has_proper_end (o ∷ os) unused) p.0 in
    octets_end (o ∷ os) unused (at_most_seven (o ∷ os) unused q.1) (omega arith) q.0 (eqb-true (last_octet (o ∷ os) / 2 ^ unused % 2) 1 last)

pub kept_as_named : (names : List NamedNumber) (octets : List ℕ) (unused : ℕ) → fits_bits octets unused ≡ true → ends_as_named names octets unused ≡ true → bits_kept names (bits_of octets unused) ≡ bits_of octets unused
kept_as_named [] octets unused h e = refl
kept_as_named (n ∷ ns) [] unused h e = ap to_last_one (nothing_taken (0 - unused)) ∙ sym (nothing_taken (0 - unused))
kept_as_named (n ∷ ns) (o ∷ os) unused h e = kept_whole (bits_of (o ∷ os) unused) (bits_end o os unused h e)

-- ---- names

place_is : (i : ℕ) → is_some (place_of_bit (pos i)) ≡ true → place_of_bit (pos i) ≡ Some i
place_is i h =
    elim (cases_Bool (nat_le i greatest_bit)) [
      | inl fits_ ↦ cond-true (nat_le i greatest_bit) (Some i) None fits_
      | inr above ↦ absurd (false≢true (sym (ap is_some (cond-false (nat_le i greatest_bit) (Some i) None above)) ∙ h))
    ]

bit_there : (ns : List NamedNumber) (name : List ℕ) (z : ℤ) → AreBits ns → number_named name ns ≡ Some z → is_some (place_of_bit z) ≡ true
bit_there [] name z h e = absurd (none-some z e)
bit_there (n ∷ ns) name z h e =
    elim (chosen (bytes_eq name n.name) (Some n.number) (number_named name ns) (Some z) e) [
      | inl (here, same) ↦ subst (λ (x : ℤ). is_some (place_of_bit x) ≡ true) (same_Some n.number z same) h.0
      | inr (not_here, later) ↦ bit_there ns name z h.1 later
    ]

bit_meant : (ns : List NamedNumber) (i : ℕ) (o : Option (List ℕ)) → HaveNames ns → AreBits ns → name_of ns (pos i) ≡ o → is_some o ≡ true → named_bit ns (name_or_number o i) ≡ Some i
bit_meant ns i None h bits e some = absurd (false≢true some)
bit_meant ns i (Some name) h bits e some =
    let meant = (some_named ns (pos i) name h e).meant in
    ap (option_and_then place_of_bit) meant ∙ place_is i (bit_there ns name (pos i) bits meant)

pub names_said : (ns : List NamedNumber) (i : ℕ) (bits : List ℕ) → HaveNames ns → AreBits ns → are_named ns i bits ≡ true → places_named ns (names_written (names_of_ones ns i bits)) ≡ Some (ones_from i bits)
names_said ns i [] h b e = refl
names_said ns i (zero ∷ bits) h b e = names_said ns (suc i) bits h b e
names_said ns i (suc c ∷ bits) h b e =
    let p = and_parts (is_some (name_of ns (pos i))) (are_named ns (suc i) bits) e in
    let first : named_bit ns (name_or_number (name_of ns (pos i)) i) ≡ Some i = bit_meant ns i (name_of ns (pos i)) h b refl p.0 in
    let others = names_said ns (suc i) bits h b p.1 in
    λ k. one_more (first k) (others k)

pub ones_said : (n : NamedNumber) (ns : List NamedNumber) (octets : List ℕ) (unused : ℕ) → fits_bits octets unused ≡ true → ends_as_named (n ∷ ns) octets unused ≡ true
    → ones_at (ones_from 0 (bits_of octets unused)) ≡ bits_of octets unused
ones_said n ns [] unused h e = subst (λ (bs : List ℕ). ones_at (ones_from 0 bs) ≡ bs) (sym (nothing_taken (0 - unused))) refl
ones_said n ns (o ∷ os) unused h e =
    let p = and_parts (all_below 256 (o ∷ os) && has_proper_end (o ∷ os) unused) (has_zero_end (o ∷ os) unused) h in
    ones_again (bits_of (o ∷ os) unused) (left_small (o ∷ os) unused (and_parts (all_below 256 (o ∷ os)) (has_proper_end (o ∷ os) unused) p.0).0) (bits_end o os unused h e)
