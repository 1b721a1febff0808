-- Which slots are below one, and which of a set aren't in another.
use Rattle.std.proofs.Common.{◌≡◌, ℕ, zero, suc, ◌+◌, ◌-◌, ◌^◌, ◌%◌, ◌<◌, ◌≤◌, Bool, true, false, cond, eqb, ltb, refl, sym, ap, ◌∙◌, arith}
use Rattle.std.specs.Prelude.{◌&&◌, not, min}
use Rattle.std.specs.Int.{bit_at}
use Rattle.std.specs.Int.Bits.{bit_xor}
use Rattle.std.proofs.lemmas.Bool.{ltb-true, ltb-false, lt-ltb, le-ltb}
use Rattle.std.proofs.lemmas.Nat.Bits.{bit_at_and, bit_at_xor, bit_at-lt, bit_at_ones, bit_at_ones_above}
use Rattle.guard_tables.specs.declared.slots.Slots.{Slots}
use Rattle.guard_tables.specs.Slots.{below, without, low_bits, bits_without, has}
use Rattle.guard_tables.proofs.SlotSets.{has_word, by_place, own_words}

-- ---- the slots below one

ones : (n i : ℕ) (b : Bool) → ltb i n ≡ b → eqb (bit_at (2 ^ n - 1) i) 1 ≡ b
ones n i true h = ap (λ (x : ℕ). eqb x 1) (bit_at_ones n i (ltb-true i n h))
ones n i false h = ap (λ (x : ℕ). eqb x 1) (bit_at_ones_above n i (ltb-false i n h))

-- where bits of the word are all below
full : (n i : ℕ) (b : Bool) → ltb i 64 ≡ b → 64 ≤ n → (64 ≤ i → n ≤ i) → b ≡ ltb i n
full n i true h big up = let lt = ltb-true i 64 h in sym (lt-ltb i n (omega (arith, lt, big)))
full n i false h big up = sym (le-ltb i n (up (ltb-false i 64 h)))

low_bit : (n i : ℕ) (b : Bool) → ltb n 64 ≡ b → (64 ≤ i → n ≤ i) → eqb (bit_at (cond b (2 ^ n - 1) (2 ^ 64 - 1)) i) 1 ≡ ltb i n
low_bit n i true h up = ones n i (ltb i n) refl
low_bit n i false h up = ones 64 i (ltb i 64) refl ∙ full n i (ltb i 64) refl (ltb-false n 64 h) up

-- both after a word
same_less : (n k i : ℕ) → n ≤ i → (b : Bool) → ltb i k ≡ b → ltb (i - n) (k - n) ≡ b
same_less n k i low true h = let lt = ltb-true i k h in lt-ltb (i - n) (k - n) (omega (arith, low, lt))
same_less n k i low false h = let le = ltb-false i k h in le-ltb (i - n) (k - n) (omega (arith, low, le))

pub below_law : (n slot : ℕ) → n ≤ 256 → has (below n) slot ≡ ltb slot n
unfolding below
below_law n slot few =
    has_word (below n) slot (eqb (bit_at (low_bits n) slot) 1) (eqb (bit_at (low_bits (n - 64)) (slot - 64)) 1) (eqb (bit_at (low_bits (n - 128)) (slot - 128)) 1) (eqb (bit_at (low_bits (n - 192)) (slot - 192)) 1)
    (record { first = refl; second = refl; third = refl; fourth = refl })
    ∙ by_place (ltb slot 64) (ltb slot 128) (ltb slot 192) (eqb (bit_at (low_bits n) slot) 1) (eqb (bit_at (low_bits (n - 64)) (slot - 64)) 1) (eqb (bit_at (low_bits (n - 128)) (slot - 128)) 1) (eqb (bit_at (low_bits (n - 192)) (slot - 192)) 1) (ltb slot n)
    (λ w. let p = ltb-true slot 64 w in low_bit n slot (ltb n 64) refl (λ h. absurd (omega (arith, p, h))))
    (λ w x. let p = ltb-true slot 128 x in low_bit (n - 64) (slot - 64) (ltb (n - 64) 64) refl (λ h. absurd (omega (arith, p, h))) ∙ same_less 64 n slot (ltb-false slot 64 w) (ltb slot n) refl)
    (λ x y. let p = ltb-true slot 192 y in low_bit (n - 128) (slot - 128) (ltb (n - 128) 64) refl (λ h. absurd (omega (arith, p, h))) ∙ same_less 128 n slot (ltb-false slot 128 x) (ltb slot n) refl)
    (λ y. low_bit (n - 192) (slot - 192) (ltb (n - 192) 64) refl (λ h. omega (arith, few, h)) ∙ same_less 192 n slot (ltb-false slot 192 y) (ltb slot n) refl)

-- ---- the slots of one that aren't in the other

less_one : (x y : ℕ) → x < 2 → y < 2 → eqb (min x ((x + y) % 2)) 1 ≡ (eqb x 1 && not (eqb y 1))
less_one zero zero p q = refl
less_one zero (suc zero) p q = refl
less_one zero (suc (suc y)) p q = absurd (omega (arith, q))
less_one (suc zero) zero p q = refl
less_one (suc zero) (suc zero) p q = refl
less_one (suc zero) (suc (suc y)) p q = absurd (omega (arith, q))
less_one (suc (suc x)) y p q = absurd (omega (arith, p))

one_bit : (a b i : ℕ) → eqb (bit_at (bits_without a b) i) 1 ≡ (eqb (bit_at a i) 1 && not (eqb (bit_at b i) 1))
one_bit a b i =
    ap (λ (n : ℕ). eqb n 1) (bit_at_and a (bit_xor a b) i)
    ∙ ap (λ (n : ℕ). eqb (min (bit_at a i) n) 1) (bit_at_xor a b i)
    ∙ less_one (bit_at a i) (bit_at b i) (bit_at-lt a i) (bit_at-lt b i)

less_by_word : (w x y a b c d e f g h : Bool) → cond w (a && not e) (cond x (b && not f) (cond y (c && not g) (d && not h))) ≡ (cond w a (cond x b (cond y c d)) && not (cond w e (cond x f (cond y g h))))
less_by_word true x y a b c d e f g h = refl
less_by_word false true y a b c d e f g h = refl
less_by_word false false true a b c d e f g h = refl
less_by_word false false false a b c d e f g h = refl

both_of : (a b c d : Bool) → a ≡ c → b ≡ d → (a && not b) ≡ (c && not d)
both_of a b c d e f = rw (e, f) refl

pub without_law : (m k : Slots) (slot : ℕ) → has (without m k) slot ≡ (has m slot && not (has k slot))
unfolding without
without_law m k slot =
    let a : Bool = eqb (bit_at m.first slot) 1 in
    let b : Bool = eqb (bit_at m.second (slot - 64)) 1 in
    let c : Bool = eqb (bit_at m.third (slot - 128)) 1 in
    let d : Bool = eqb (bit_at m.fourth (slot - 192)) 1 in
    let e : Bool = eqb (bit_at k.first slot) 1 in
    let f : Bool = eqb (bit_at k.second (slot - 64)) 1 in
    let g : Bool = eqb (bit_at k.third (slot - 128)) 1 in
    let h : Bool = eqb (bit_at k.fourth (slot - 192)) 1 in
    has_word (without m k) slot (a && not e) (b && not f) (c && not g) (d && not h)
    (record { first = one_bit m.first k.first slot; second = one_bit m.second k.second (slot - 64); third = one_bit m.third k.third (slot - 128); fourth = one_bit m.fourth k.fourth (slot - 192) })
    ∙ less_by_word (ltb slot 64) (ltb slot 128) (ltb slot 192) a b c d e f g h
    ∙ both_of _ _ _ _ (sym (has_word m slot a b c d (own_words m slot))) (sym (has_word k slot e f g h (own_words k slot)))
