-- Bits that are zero or one, the last of them one: the places of the ones say them all.
use Rattle.std.proofs.Common.{◌≡◌, ℕ, zero, suc, ◌+◌, ◌-◌, ◌/◌, ◌%◌, ◌^◌, ◌<◌, ◌≤◌, Bool, true, false, cond, List, [], ◌∷◌, ◌++◌, map, flat_map, length, take, nat_lt, nat_eq, refl, sym, ap, subst, ◌∙◌, arith}
use Rattle.std.specs.List.{range_with_len}
use Rattle.std.proofs.lemmas.Bool.{and_parts, cond-true, cond-false}
use Rattle.std.proofs.lemmas.Bool.Decides.{nat_tests}
use Rattle.guard_der.specs.Fits.{all_below, last_octet}
use Rattle.guard_values.specs.NamedBits.{is_in, bits_to_last, bit_among, ones_at, before_ones, to_last_one}
use Rattle.guard_report.specs.Strings.{eight_bits, without_last}
use Rattle.reads_back.proofs.OctetBits.{without_more}

-- each is zero or one
abbrev pub Bits : List ℕ → Type 0
Bits [] = Unit {0}
Bits (b ∷ bs) = (b < 2) × Bits bs

-- the last one is one
abbrev pub Ends : List ℕ → Type 0
Ends [] = ⊥
Ends (b ∷ []) = b ≡ 1
Ends (b ∷ c ∷ bs) = Ends (c ∷ bs)

-- ---- of octets

pub bits_small : (octets : List ℕ) → all_below 256 octets ≡ true → Bits (flat_map eight_bits octets)
bits_small [] h = tt
bits_small (o ∷ os) h =
    let p = and_parts (nat_lt o 256) (all_below 256 os) h in
    let lt : o < 256 = grind (arith, nat_tests, p.0) in
    (omega (arith, lt), (omega arith, (omega arith, (omega arith, (omega arith, (omega arith, (omega arith, (omega arith, bits_small os p.1))))))))

take_small : (n : ℕ) (bs : List ℕ) → Bits bs → Bits (take n bs)
take_small zero [] h = tt
take_small zero (b ∷ bs) h = tt
take_small (suc n) [] h = tt
take_small (suc n) (b ∷ bs) h = (h.0, take_small n bs h.1)

pub left_small : (octets : List ℕ) (unused : ℕ) → all_below 256 octets ≡ true → Bits (without_last unused (flat_map eight_bits octets))
left_small octets unused h = take_small (length (flat_map eight_bits octets) - unused) (flat_map eight_bits octets) (bits_small octets h)

ends_behind : (bs cs : List ℕ) → Ends cs → Ends (bs ++ cs)
ends_behind [] cs h = h
ends_behind (b ∷ []) [] h = absurd h
ends_behind (b ∷ []) (c ∷ cs) h = h
ends_behind (b ∷ d ∷ bs) cs h = ends_behind (d ∷ bs) cs h

one_ends : (unused o : ℕ) → unused ≤ 7 → o < 256 → o / 2 ^ unused % 2 ≡ 1 → Ends (take (8 - unused) (eight_bits o))
one_ends zero o h lt e = omega (arith, e)
one_ends (suc (suc (suc (suc (suc (suc (suc zero))))))) o h lt e = omega (arith, e, lt)
one_ends (suc (suc (suc (suc (suc (suc (suc (suc u)))))))) o h lt e = absurd (omega arith)
one_ends unused o h lt e = e

pub octets_end : (octets : List ℕ) (unused : ℕ) → unused ≤ 7 → 1 ≤ length octets → all_below 256 octets ≡ true → last_octet octets / 2 ^ unused % 2 ≡ 1 → Ends (without_last unused (flat_map eight_bits octets))
octets_end [] unused h some below e = absurd (omega arith)
octets_end (o ∷ []) unused h some below e = let lt : o < 256 = grind (arith, nat_tests, (and_parts (nat_lt o 256) true below).0) in one_ends unused o h lt e
octets_end (o ∷ p ∷ os) unused h some below e =
    subst Ends (sym (without_more o p unused os h)) (ends_behind (eight_bits o) (without_last unused (flat_map eight_bits (p ∷ os))) (octets_end (p ∷ os) unused h (omega arith) (and_parts (nat_lt o 256) (all_below 256 (p ∷ os)) below).1 e))

-- ---- trailing zeros

before_some : (b c : ℕ) (bs : List ℕ) → before_ones b (c ∷ bs) ≡ b ∷ c ∷ bs
before_some zero c bs = refl
before_some (suc b) c bs = refl

pub kept_whole : (bs : List ℕ) → Ends bs → to_last_one bs ≡ bs
kept_whole [] h = refl
kept_whole (b ∷ []) h = subst (λ (x : ℕ). to_last_one (x ∷ []) ≡ x ∷ []) (sym h) refl
kept_whole (b ∷ c ∷ bs) h = ap (before_ones b) (kept_whole (c ∷ bs) h) ∙ before_some b c bs

-- ---- the places of the ones

-- the first of the bits is at place i
abbrev pub ones_from : ℕ → List ℕ → List ℕ
ones_from i [] = []
ones_from i (zero ∷ bits) = ones_from (suc i) bits
ones_from i (suc b ∷ bits) = i ∷ ones_from (suc i) bits

to_last : (i : ℕ) (bs : List ℕ) → Ends bs → bits_to_last (ones_from i bs) ≡ i + length bs
to_last i [] h = absurd h
to_last i (zero ∷ []) h = absurd (omega (arith, h))
to_last i (suc b ∷ []) h = let test : nat_lt i 0 ≡ false = grind (arith, nat_tests) in cond-false (nat_lt i 0) 0 (i + 1) test ∙ omega arith
to_last i (zero ∷ c ∷ bs) h = let later : bits_to_last (ones_from (suc i) (c ∷ bs)) ≡ suc i + length (c ∷ bs) = to_last (suc i) (c ∷ bs) h in omega (arith, later)
to_last i (suc b ∷ c ∷ bs) h =
    let later : bits_to_last (ones_from (suc i) (c ∷ bs)) ≡ suc i + length (c ∷ bs) = to_last (suc i) (c ∷ bs) h in
    let lt : i < bits_to_last (ones_from (suc i) (c ∷ bs)) = omega (arith, later) in
    let test : nat_lt i (bits_to_last (ones_from (suc i) (c ∷ bs))) ≡ true = grind (arith, nat_tests, lt) in
    cond-true (nat_lt i (bits_to_last (ones_from (suc i) (c ∷ bs)))) (bits_to_last (ones_from (suc i) (c ∷ bs))) (i + 1) test ∙ omega (arith, later)

unequal : (j i : ℕ) → i < j → nat_eq j i ≡ false
unequal j i h = grind (arith, nat_tests)

below_unequal : (j i : ℕ) → j < i → nat_eq j i ≡ false
below_unequal j i h = grind (arith, nat_tests)

not_in : (j i : ℕ) (bs : List ℕ) → j < i → is_in j (ones_from i bs) ≡ false
not_in j i [] h = refl
not_in j i (zero ∷ bs) h = not_in j (suc i) bs (omega (arith, h))
not_in j i (suc b ∷ bs) h = rw (below_unequal j i h) (not_in j (suc i) bs (omega (arith, h)))

in_later : (j i : ℕ) (places : List ℕ) → i < j → is_in j (i ∷ places) ≡ is_in j places
in_later j i places h = rw (unequal j i h) refl

same_over : (f g : ℕ → ℕ) (i n : ℕ) → ((j : ℕ) → i ≤ j → f j ≡ g j) → map f (range_with_len i n) ≡ map g (range_with_len i n)
same_over f g i zero h = refl
same_over f g i (suc n) h = let others : map f (range_with_len (i + 1) n) ≡ map g (range_with_len (i + 1) n) = same_over f g (i + 1) n (λ j le. h j (omega (arith, le))) in λ k. h i (omega arith) k ∷ others k

among : (i : ℕ) (bs : List ℕ) → Bits bs → map (bit_among (ones_from i bs)) (range_with_len i (length bs)) ≡ bs
among i [] h = refl
among i (zero ∷ bs) h =
    let first : bit_among (ones_from (suc i) bs) i ≡ 0 = cond-false (is_in i (ones_from (suc i) bs)) 1 0 (not_in i (suc i) bs (omega arith)) in
    let next : i + 1 ≡ suc i = omega arith in
    let others : map (bit_among (ones_from (suc i) bs)) (range_with_len (i + 1) (length bs)) ≡ bs =
    ap (λ (n : ℕ). map (bit_among (ones_from (suc i) bs)) (range_with_len n (length bs))) next ∙ among (suc i) bs h.1 in
    λ k. first k ∷ others k
among i (suc b ∷ bs) h =
    let here : is_in i (i ∷ ones_from (suc i) bs) ≡ true = let same : nat_eq i i ≡ true = grind (arith, nat_tests) in rw same refl in
    let first : bit_among (i ∷ ones_from (suc i) bs) i ≡ 1 = cond-true (is_in i (i ∷ ones_from (suc i) bs)) 1 0 here in
    let one : 1 ≡ suc b = omega (arith, h.0) in
    let next : i + 1 ≡ suc i = omega arith in
    let others : map (bit_among (i ∷ ones_from (suc i) bs)) (range_with_len (i + 1) (length bs)) ≡ bs =
    same_over (bit_among (i ∷ ones_from (suc i) bs)) (bit_among (ones_from (suc i) bs)) (i + 1) (length bs) (λ j le. ap (λ (x : Bool). cond x 1 0) (in_later j i (ones_from (suc i) bs) (omega (arith, le))))
    ∙ ap (λ (n : ℕ). map (bit_among (ones_from (suc i) bs)) (range_with_len n (length bs))) next ∙ among (suc i) bs h.1 in
    λ k. (first ∙ one) k ∷ others k

pub ones_again : (bs : List ℕ) → Bits bs → Ends bs → ones_at (ones_from 0 bs) ≡ bs
ones_again bs h e =
    let count : bits_to_last (ones_from 0 bs) ≡ length bs = to_last 0 bs e ∙ omega arith in
    ap (λ (n : ℕ). map (bit_among (ones_from 0 bs)) (range_with_len 0 n)) count ∙ among 0 bs h
