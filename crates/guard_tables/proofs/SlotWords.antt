-- Sets that are made of slots are equal where they have the same slots.
use Rattle.std.proofs.Common.{◌≡◌, ℕ, zero, suc, ◌+◌, ◌-◌, ◌<◌, Bool, true, false, cond, eqb, ltb, refl, sym, ap, ◌∙◌, arith}
use Rattle.std.specs.Prelude.{◌^◌}
use Rattle.std.specs.Int.{bit_at}
use Rattle.std.proofs.Math.Pow.{pow-lt}
use Rattle.std.proofs.lemmas.Bool.{ltb-true, lt-ltb, le-ltb}
use Rattle.std.proofs.lemmas.Nat.{or_lt}
use Rattle.std.proofs.lemmas.Nat.Bits.{bit_at-lt, same_from_bits, same_from_bits_below}
use Rattle.guard_tables.specs.declared.slots.Slots.{Slots}
use Rattle.guard_tables.specs.Slots.{none, only, added, has}
use Rattle.guard_tables.specs.inside.SlotWords.{InWords}
use Rattle.guard_tables.proofs.SlotSets.{word_told, one_word, of_chosen}

no_bit : 0 < 2 ^ 64
no_bit = omega arith

pub none_in : InWords none
unfolding none
none_in = record { first = no_bit; second = no_bit; third = no_bit }

pub only_in : (k : ℕ) → InWords (only k)
unfolding only
only_in k =
    of_chosen (ltb k 64) (ltb k 128) (ltb k 192) (one_word (2 ^ k) 0 0 0) (one_word 0 (2 ^ (k - 64)) 0 0)
    (one_word 0 0 (2 ^ (k - 128)) 0) (one_word 0 0 0 (2 ^ (k - 192))) InWords
    (λ w. let h = ltb-true k 64 w in record { first = pow-lt h; second = no_bit; third = no_bit })
    (λ w x. let h = ltb-true k 128 x in let p : k - 64 < 64 = omega (arith, h) in record
    { first = no_bit; second = pow-lt p; third = no_bit })
    (λ x y. let h = ltb-true k 192 y in let p : k - 128 < 64 = omega (arith, h) in record
    { first = no_bit; second = no_bit; third = pow-lt p })
    (λ y. record { first = no_bit; second = no_bit; third = no_bit })

pub added_in : (m k : Slots) → InWords m → InWords k → InWords (added m k)
unfolding added
added_in m k p q = record {
  first = or_lt 64 m.first k.first p.first q.first;
  second = or_lt 64 m.second k.second p.second q.second;
  third =
      or_lt 64 m.third k.third p.third q.third;
}

-- ---- the slots of each word

at_first : (w x y : Bool) (a b c d : Bool) → w ≡ true → cond w a (cond x b (cond y c d)) ≡ a
at_first w x y a b c d e = rw e refl

at_second : (w x y : Bool) (a b c d : Bool) → w ≡ false → x ≡ true → cond w a (cond x b (cond y c d)) ≡ b
at_second w x y a b c d e f = rw (e, f) refl

at_third : (w x y : Bool) (a b c d : Bool) → w ≡ false → x ≡ false → y ≡ true → cond w a (cond x b (cond y c d)) ≡ c
at_third w x y a b c d e f g = rw (e, f, g) refl

at_fourth : (w x y : Bool) (a b c d : Bool) → w ≡ false → x ≡ false → y ≡ false → cond w a (cond x b (cond y c d)) ≡ d
at_fourth w x y a b c d e f g = rw (e, f, g) refl

pub in_first : (m : Slots) (i : ℕ) → i < 64 → has m i ≡ eqb (bit_at m.first i) 1
in_first m i h = word_told m i ∙ at_first (ltb i 64) (ltb i 128) (ltb i 192) _ _ _ _ (lt-ltb i 64 h)

pub in_second : (m : Slots) (i : ℕ) → i < 64 → has m (64 + i) ≡ eqb (bit_at m.second i) 1
in_second m i h =
    word_told m (64 + i)
    ∙ at_second (ltb (64 + i) 64) (ltb (64 + i) 128) (ltb (64 + i) 192) _ _ _ _ (le-ltb (64 + i) 64 (omega arith))
    (lt-ltb (64 + i) 128 (omega (arith, h)))
    ∙ ap (λ (n : ℕ). eqb (bit_at m.second n) 1) (omega arith)

pub in_third : (m : Slots) (i : ℕ) → i < 64 → has m (128 + i) ≡ eqb (bit_at m.third i) 1
in_third m i h =
    word_told m (128 + i)
    ∙ at_third (ltb (128 + i) 64) (ltb (128 + i) 128) (ltb (128 + i) 192) _ _ _ _ (le-ltb (128 + i) 64 (omega arith))
    (le-ltb (128 + i) 128 (omega arith)) (lt-ltb (128 + i) 192 (omega (arith, h)))
    ∙ ap (λ (n : ℕ). eqb (bit_at m.third n) 1) (omega arith)

pub in_fourth : (m : Slots) (i : ℕ) → has m (192 + i) ≡ eqb (bit_at m.fourth i) 1
in_fourth m i =
    word_told m (192 + i)
    ∙ at_fourth (ltb (192 + i) 64) (ltb (192 + i) 128) (ltb (192 + i) 192) _ _ _ _ (le-ltb (192 + i) 64 (omega arith))
    (le-ltb (192 + i) 128 (omega arith)) (le-ltb (192 + i) 192 (omega arith))
    ∙ ap (λ (n : ℕ). eqb (bit_at m.fourth n) 1) (omega arith)

-- ---- sets with the same slots

same_bit : (a b : ℕ) → a < 2 → b < 2 → eqb a 1 ≡ eqb b 1 → a ≡ b
same_bit zero zero p q e = refl
same_bit zero (suc zero) p q e = absurd cc
same_bit zero (suc (suc b)) p q e = absurd (omega (arith, q))
same_bit (suc zero) zero p q e = absurd cc
same_bit (suc zero) (suc zero) p q e = refl
same_bit (suc zero) (suc (suc b)) p q e = absurd (omega (arith, q))
same_bit (suc (suc a)) b p q e = absurd (omega (arith, p))

same_at : (a b i : ℕ) → eqb (bit_at a i) 1 ≡ eqb (bit_at b i) 1 → bit_at a i ≡ bit_at b i
same_at a b i e = same_bit (bit_at a i) (bit_at b i) (bit_at-lt a i) (bit_at-lt b i) e

pub of_words : (m k : Slots) → m.first ≡ k.first → m.second ≡ k.second → m.third ≡ k.third → m.fourth ≡ k.fourth → m ≡ k
of_words m k e f g h =
    ap (λ (a : ℕ). one_word a m.second m.third m.fourth) e ∙ ap (λ (a : ℕ). one_word k.first a m.third m.fourth) f
    ∙ ap (λ (a : ℕ). one_word k.first k.second a m.fourth) g ∙ ap (λ (a : ℕ). one_word k.first k.second k.third a) h

pub same_slots : (m k : Slots) → InWords m → InWords k → ((slot : ℕ) → has m slot ≡ has k slot) → m ≡ k
same_slots m k p q h =
    of_words m k
    (same_from_bits_below 64 m.first k.first p.first q.first
    (λ i lt. same_at m.first k.first i (sym (in_first m i lt) ∙ h i ∙ in_first k i lt)))
    (same_from_bits_below 64 m.second k.second p.second q.second
    (λ i lt. same_at m.second k.second i (sym (in_second m i lt) ∙ h (64 + i) ∙ in_second k i lt)))
    (same_from_bits_below 64 m.third k.third p.third q.third
    (λ i lt. same_at m.third k.third i (sym (in_third m i lt) ∙ h (128 + i) ∙ in_third k i lt)))
    (same_from_bits m.fourth k.fourth
    (λ i. same_at m.fourth k.fourth i (sym (in_fourth m i) ∙ h (192 + i) ∙ in_fourth k i)))
