-- Octets in which the bits at some places are set, one after another.
use Rattle.std.proofs.Common.{◌≡◌, ℕ, zero, suc, ◌+◌, ◌-◌, ◌*◌, ◌/◌, ◌%◌, ◌^◌, ◌<◌, ◌≤◌, List, [], ◌∷◌, ◌++◌, length, take, drop, get_or, refl, sym, ap, ◌∙◌, arith, inl, inr, length-drop}
use Rattle.std.specs.Prelude.{set, replicate}
use Rattle.std.specs.Int.{div_ceil}
use Rattle.std.specs.Int.Bits.{bit_or, or_zero_r}
use Rattle.std.proofs.Math.Seq.{take-suc}
use Rattle.std.proofs.lemmas.Bool.{cases_lt}
use Rattle.std.proofs.lemmas.Grind.{div_ceil_times}
use Rattle.std.proofs.lemmas.List.{length-set, length-replicate, drop-replicate, drop-set-lt, drop-set-add, take_all}
use Rattle.std.proofs.lemmas.Nat.{or_block, pow_pos, pow_below}
use Rattle.guard_values.specs.NamedBits.{bits_to_last, ones_at}
use Rattle.guard_values.specs.Strings.{filled, packed, octets_of_bits}
use Rattle.guard_values.proofs.SingleValues.NamedBits.{AreBits, marked, marked_length, marked_is, place_below}
use Rattle.guard_values.proofs.Fitting.OctetsOfBits.{filled_small, bits_after, bits_small}

-- ---- one octet

filled_below : (n : ℕ) (ds : List ℕ) → AreBits ds → filled 2 n ds < 2 ^ n
filled_below n ds small = filled_small 2 n ds (omega arith) (bits_small ds small)

with_one : (d : ℕ) → d < 2 → bit_or d 1 ≡ 1
with_one zero lt = refl
with_one (suc zero) lt = refl
with_one (suc (suc d)) lt = absurd (omega (arith, lt))

first_set : (n d f : ℕ) → d < 2 → f < 2 ^ n → 1 * 2 ^ n + f ≡ bit_or (d * 2 ^ n + f) (2 ^ n)
first_set n d f small below =
    let block : bit_or (d * 2 ^ n + f) (1 * 2 ^ n + 0) ≡ bit_or d 1 * 2 ^ n + bit_or f 0 = or_block n d 1 f 0 below (pow_pos n) in
    let weight : 1 * 2 ^ n + 0 ≡ 2 ^ n = omega arith in
    sym (ap (bit_or (d * 2 ^ n + f)) (sym weight) ∙ block ∙ ap (λ (o : ℕ). o * 2 ^ n + bit_or f 0) (with_one d small) ∙ ap (λ (o : ℕ). 1 * 2 ^ n + o) (or_zero_r f))

later_set : (n d f w : ℕ) → f < 2 ^ n → w < 2 ^ n → d * 2 ^ n + bit_or f w ≡ bit_or (d * 2 ^ n + f) w
later_set n d f w below small =
    let block : bit_or (d * 2 ^ n + f) (0 * 2 ^ n + w) ≡ bit_or d 0 * 2 ^ n + bit_or f w = or_block n d 0 f w below small in
    let weight : 0 * 2 ^ n + w ≡ w = omega arith in
    sym (ap (bit_or (d * 2 ^ n + f)) (sym weight) ∙ block ∙ ap (λ (o : ℕ). o * 2 ^ n + bit_or f w) (or_zero_r d))

filled_set : (n : ℕ) (ds : List ℕ) (j : ℕ) → AreBits ds → j < length ds → j < n → filled 2 n (set ds j 1) ≡ bit_or (filled 2 n ds) (2 ^ (n - 1 - j))
filled_set n [] j small there within = absurd (omega (arith, there))
filled_set zero (d ∷ ds) j small there within = absurd (omega (arith, within))
filled_set (suc n) (d ∷ ds) zero small there within =
    let last : suc n - 1 - 0 ≡ n = omega arith in
    first_set n d (filled 2 n ds) small.0 (filled_below n ds small.1) ∙ ap (λ (k : ℕ). bit_or (d * 2 ^ n + filled 2 n ds) (2 ^ k)) (sym last)
filled_set (suc n) (d ∷ ds) (suc j) small there within =
    let same : suc n - 1 - suc j ≡ n - 1 - j = omega arith in
    let rest : filled 2 n (set ds j 1) ≡ bit_or (filled 2 n ds) (2 ^ (n - 1 - j)) = filled_set n ds j small.1 (omega (arith, there)) (omega (arith, within)) in
    ap (λ (f : ℕ). d * 2 ^ n + f) rest ∙ later_set n d (filled 2 n ds) (2 ^ (n - 1 - j)) (filled_below n ds small.1) (pow_below (n - 1 - j) n (omega (arith, within)))
    ∙ ap (λ (k : ℕ). bit_or (d * 2 ^ n + filled 2 n ds) (2 ^ k)) (sym same)

filled_front : (n : ℕ) (ds : List ℕ) (p : ℕ) → n ≤ p → filled 2 n (set ds p 1) ≡ filled 2 n ds
filled_front zero ds p le = refl
filled_front (suc n) [] p le = refl
filled_front (suc n) (d ∷ ds) zero le = absurd (omega (arith, le))
filled_front (suc n) (d ∷ ds) (suc p) le = ap (λ (f : ℕ). d * 2 ^ n + f) (filled_front n ds p (omega (arith, le)))

-- ---- all octets

packed_first : (f : ℕ) (ds : List ℕ) → 1 ≤ length ds → packed 2 8 (suc f) ds ≡ filled 2 8 ds ∷ packed 2 8 f (drop 8 ds)
packed_first f [] le = absurd (omega (arith, le))
packed_first f (d ∷ ds) le = refl

one_set : (ds : List ℕ) (p : ℕ) → AreBits ds → AreBits (set ds p 1)
one_set [] p h = tt
one_set (d ∷ ds) zero h = (omega arith, h.1)
one_set (d ∷ ds) (suc p) h = (h.0, one_set ds p h.1)

-- the octets with the bit at this place set too
abbrev pub with_bit : List ℕ → ℕ → List ℕ
with_bit os p = set os (p / 8) (bit_or (get_or os (p / 8) 0) (2 ^ (7 - p % 8)))

packed_set : (f : ℕ) (ds : List ℕ) (p : ℕ) → AreBits ds → p < length ds → length ds ≤ f → packed 2 8 f (set ds p 1) ≡ with_bit (packed 2 8 f ds) p
packed_set zero ds p small there enough = absurd (omega (arith, there, enough))
packed_set (suc f) ds p small there enough =
    let some : 1 ≤ length ds = omega (arith, there) in
    let count : length (set ds p 1) ≡ length ds = length-set ds p 1 in
    let before = packed_first f ds some in
    packed_first f (set ds p 1) (omega (arith, count, some)) ∙ (elim (cases_lt p 8) [
      | inl lt ↦
          let place : p / 8 ≡ 0 = omega (arith, lt) in
          let bit : 8 - 1 - p ≡ 7 - p % 8 = omega (arith, lt) in
          let first : filled 2 8 (set ds p 1) ≡ bit_or (filled 2 8 ds) (2 ^ (7 - p % 8)) = filled_set 8 ds p small there lt ∙ ap (λ (k : ℕ). bit_or (filled 2 8 ds) (2 ^ k)) bit in
          ap (λ (o : ℕ). o ∷ packed 2 8 f (drop 8 (set ds p 1))) first
          ∙ ap (λ (rest : List ℕ). bit_or (filled 2 8 ds) (2 ^ (7 - p % 8)) ∷ packed 2 8 f rest) (drop-set-lt 8 ds p 1 lt)
          ∙ sym (ap (λ (os : List ℕ). with_bit os p) before ∙ ap (λ (k : ℕ). set (filled 2 8 ds ∷ packed 2 8 f (drop 8 ds)) k (bit_or (get_or (filled 2 8 ds ∷ packed 2 8 f (drop 8 ds)) k 0) (2 ^ (7 - p % 8)))) place)
      | inr le ↦
          let i = p - 8 in
          let is : 8 + i ≡ p = omega (arith, le) in
          let place : p / 8 ≡ suc (i / 8) = omega (arith, le) in
          let bit : i % 8 ≡ p % 8 = omega (arith, le) in
          let left : length (drop 8 ds) ≡ length ds - 8 = length-drop 8 ds in
          let rest : drop 8 (set ds p 1) ≡ set (drop 8 ds) i 1 = ap (λ (k : ℕ). drop 8 (set ds k 1)) (sym is) ∙ drop-set-add 8 ds i 1 in
          let later : packed 2 8 f (set (drop 8 ds) i 1) ≡ with_bit (packed 2 8 f (drop 8 ds)) i = packed_set f (drop 8 ds) i (bits_after 8 ds small) (omega (arith, left, there, le)) (omega (arith, left, enough, some)) in
          ap (λ (o : ℕ). o ∷ packed 2 8 f (drop 8 (set ds p 1))) (filled_front 8 ds p le)
          ∙ ap (λ (os : List ℕ). filled 2 8 ds ∷ packed 2 8 f os) rest
          ∙ ap (λ (os : List ℕ). filled 2 8 ds ∷ os) later
          ∙ ap (λ (k : ℕ). filled 2 8 ds ∷ set (packed 2 8 f (drop 8 ds)) (i / 8) (bit_or (get_or (packed 2 8 f (drop 8 ds)) (i / 8) 0) (2 ^ (7 - k)))) bit
          ∙ sym (ap (λ (os : List ℕ). with_bit os p) before ∙ ap (λ (k : ℕ). set (filled 2 8 ds ∷ packed 2 8 f (drop 8 ds)) k (bit_or (get_or (filled 2 8 ds ∷ packed 2 8 f (drop 8 ds)) k 0) (2 ^ (7 - p % 8)))) place)
    ])

no_ones : (places n : ℕ) → filled 2 places (replicate n 0) ≡ 0
no_ones zero n = refl
no_ones (suc places) zero = refl
no_ones (suc places) (suc n) = let rest : filled 2 places (replicate n 0) ≡ 0 = no_ones places n in omega (arith, rest)

packed_zeros : (f n : ℕ) → n ≤ f → packed 2 8 f (replicate n 0) ≡ replicate (div_ceil n 8) 0
packed_zeros zero zero le = refl
packed_zeros (suc f) zero le = refl
packed_zeros zero (suc n) le = absurd (omega (arith, le))
packed_zeros (suc f) (suc n) le =
    let rest : drop {A = ℕ} 8 (replicate (suc n) 0) ≡ replicate (suc n - 8) 0 = drop-replicate 8 (suc n) 0 in
    let later : packed 2 8 f (replicate (suc n - 8) 0) ≡ replicate (div_ceil (suc n - 8) 8) 0 = packed_zeros f (suc n - 8) (omega (arith, le)) in
    let count : div_ceil (suc n) 8 ≡ suc (div_ceil (suc n - 8) 8) = omega arith in
    ap (λ (o : ℕ). o ∷ packed 2 8 f (drop 8 (replicate (suc n) 0))) (no_ones 8 (suc n)) ∙ ap (λ (os : List ℕ). 0 ∷ packed 2 8 f os) rest ∙ ap (λ (os : List ℕ). 0 ∷ os) later
    ∙ ap (λ (k : ℕ). replicate k 0) (sym count)

pub octet_below : (p n : ℕ) → p < n → p / 8 < div_ceil n 8
octet_below p n lt = let bound = (div_ceil_times n 8 (omega arith)).0 in omega (arith, bound, lt)

-- ---- one place after another

marked_last : (bits ps : List ℕ) (p : ℕ) → marked bits (ps ++ p ∷ []) ≡ set (marked bits ps) p 1
marked_last bits [] p = refl
marked_last bits (q ∷ ps) p = marked_last (set bits q 1) ps p

marked_bits : (bits ps : List ℕ) → AreBits bits → AreBits (marked bits ps)
marked_bits bits [] h = h
marked_bits bits (p ∷ ps) h = marked_bits (set bits p 1) ps (one_set bits p h)

zero_bits : (n : ℕ) → AreBits (replicate n 0)
zero_bits zero = tt
zero_bits (suc n) = (omega arith, zero_bits n)

-- the bits with ones at the first so many places
abbrev pub marked_first : List ℕ → ℕ → List ℕ
marked_first places i = marked (replicate (bits_to_last places) 0) (take i places)

first_count : (places : List ℕ) (i : ℕ) → length (marked_first places i) ≡ bits_to_last places
first_count places i = marked_length (take i places) (replicate (bits_to_last places) 0) ∙ length-replicate (bits_to_last places) 0

pub none_marked : (places : List ℕ) → replicate (div_ceil (bits_to_last places) 8) 0 ≡ octets_of_bits (marked_first places 0)
none_marked places =
    let n = bits_to_last places in
    let zeros : List ℕ = replicate n 0 in
    let count : length zeros ≡ n = length-replicate n 0 in
    sym (packed_zeros (length zeros) n (omega (arith, count)))

pub one_marked : (places os : List ℕ) (i p : ℕ) → i < length places → p ≡ get_or places i 0 → os ≡ octets_of_bits (marked_first places i) → with_bit os p ≡ octets_of_bits (marked_first places (i + 1))
one_marked places os i p lt is so_far =
    let n = bits_to_last places in
    let bits = marked_first places i in
    let count : length bits ≡ n = first_count places i in
    let below : get_or places i 0 < n = place_below places i 0 lt in
    let more : i + 1 ≡ suc i = omega arith in
    let next : marked_first places (i + 1) ≡ set bits p 1 =
    ap (λ (k : ℕ). marked (replicate n 0) (take k places)) more ∙ ap (marked (replicate n 0)) (take-suc places i 0 lt ∙ ap (λ (q : ℕ). take i places ++ q ∷ []) (sym is)) ∙ marked_last (replicate n 0) (take i places) p in
    ap (λ (xs : List ℕ). with_bit xs p) so_far
    ∙ sym (packed_set (length bits) bits p (marked_bits (replicate n 0) (take i places) (zero_bits n)) (omega (arith, count, below, is)) (omega arith))
    ∙ ap (λ (k : ℕ). packed 2 8 k (set bits p 1)) (sym (length-set bits p 1))
    ∙ ap octets_of_bits (sym next)

pub all_marked : (places os : List ℕ) (i : ℕ) → length places ≤ i → os ≡ octets_of_bits (marked_first places i) → os ≡ octets_of_bits (ones_at places)
all_marked places os i le so_far =
    so_far ∙ ap (λ (ps : List ℕ). octets_of_bits (marked (replicate (bits_to_last places) 0) ps)) (take_all i places le) ∙ ap octets_of_bits (marked_is places)
