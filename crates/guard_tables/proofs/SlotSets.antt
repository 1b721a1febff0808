-- Which slots a set has.
use Rattle.std.proofs.Common.{◌≡◌, ◌≢◌, ℕ, zero, suc, ◌-◌, ◌<◌, ◌≤◌, Bool, true, false, cond, eqb, ltb, refl, sym, ap, ◌∙◌, arith, inl, inr}
use Rattle.std.specs.Prelude.{◌||◌, max, ◌^◌}
use Rattle.std.specs.Int.{bit_at}
use Rattle.std.specs.Int.Bits.{bit_or}
use Rattle.std.proofs.lemmas.Bool.{ltb-true, ltb-false, eq-eqb, ne_eqb}
use Rattle.std.proofs.lemmas.Bool.Decides.{eqb_tells}
use Rattle.std.proofs.lemmas.Nat.Bits.{bit_at_or, bit_at-lt, bit_at-zero, bit_at-pow_same, bit_at-pow_other}
use Rattle.guard_tables.specs.declared.slots.Slots.{Slots}
use Rattle.guard_tables.specs.Slots.{none, only, added, has}

-- ---- by words

by_word : (w x y : Bool) (a b c d : ℕ) → eqb (cond w a (cond x b (cond y c d))) 1 ≡ cond w (eqb a 1) (cond x (eqb b 1) (cond y (eqb c 1) (eqb d 1)))
by_word true x y a b c d = refl
by_word false true y a b c d = refl
by_word false false true a b c d = refl
by_word false false false a b c d = refl

-- what each word of a set says of a slot
pub record Words (m : Slots) (slot : ℕ) (a b c d : Bool) : Type 0 where
  pub first : eqb (bit_at m.first slot) 1 ≡ a
  pub second : eqb (bit_at m.second (slot - 64)) 1 ≡ b
  pub third : eqb (bit_at m.third (slot - 128)) 1 ≡ c
  pub fourth : eqb (bit_at m.fourth (slot - 192)) 1 ≡ d

pub has_word : (m : Slots) (slot : ℕ) (a b c d : Bool) → Words m slot a b c d → has m slot ≡ cond (ltb slot 64) a (cond (ltb slot 128) b (cond (ltb slot 192) c d))
unfolding has
has_word m slot a b c d w =
    by_word (ltb slot 64) (ltb slot 128) (ltb slot 192) (bit_at m.first slot) (bit_at m.second (slot - 64)) (bit_at m.third (slot - 128)) (bit_at m.fourth (slot - 192))
    ∙ rw (w.first, w.second, w.third, w.fourth) refl

pub zero_bit : (i : ℕ) → eqb (bit_at 0 i) 1 ≡ false
zero_bit i = ap (λ (n : ℕ). eqb n 1) (bit_at-zero i)

all_same : (w x y : Bool) (r : Bool) → cond w r (cond x r (cond y r r)) ≡ r
all_same true x y r = refl
all_same false true y r = refl
all_same false false true r = refl
all_same false false false r = refl

pub none_law : (slot : ℕ) → has none slot ≡ false
unfolding none
none_law slot =
    has_word none slot false false false false (record { first = zero_bit slot; second = zero_bit (slot - 64); third = zero_bit (slot - 128); fourth = zero_bit (slot - 192) })
    ∙ all_same (ltb slot 64) (ltb slot 128) (ltb slot 192) false

-- ---- the set of one slot

pow_bit : (k i : ℕ) → eqb (bit_at (2 ^ k) i) 1 ≡ eqb k i
pow_bit k i = elim (eqb_tells k i) [
  | inl p ↦ ap (λ (n : ℕ). eqb (bit_at (2 ^ k) n) 1) (sym p.1) ∙ ap (λ (n : ℕ). eqb n 1) (bit_at-pow_same k) ∙ sym p.0
  | inr p ↦ ap (λ (n : ℕ). eqb n 1) (bit_at-pow_other k i (λ e. p.1 (sym e))) ∙ sym p.0
]

-- where both are from a word on
shifted : (n k i : ℕ) → n ≤ k → n ≤ i → eqb (k - n) (i - n) ≡ eqb k i
shifted n k i p q = elim (eqb_tells k i) [
  | inl h ↦ eq-eqb (k - n) (i - n) (ap (λ (m : ℕ). m - n) h.1) ∙ sym h.0
  | inr h ↦ ne_eqb (k - n) (i - n) (λ e. h.1 (omega (arith, p, q, e))) ∙ sym h.0
]

apart : (k i : ℕ) → k ≢ i → false ≡ eqb k i
apart k i h = sym (ne_eqb k i h)

pub by_place : (w x y : Bool) (a b c d r : Bool) → (w ≡ true → a ≡ r) → (w ≡ false → x ≡ true → b ≡ r) → (x ≡ false → y ≡ true → c ≡ r) → (y ≡ false → d ≡ r) → cond w a (cond x b (cond y c d)) ≡ r
by_place true x y a b c d r p q s u = p refl
by_place false true y a b c d r p q s u = q refl refl
by_place false false true a b c d r p q s u = s refl refl
by_place false false false a b c d r p q s u = u refl

in_first : (k i : ℕ) → k < 64 → cond (ltb i 64) (eqb k i) (cond (ltb i 128) false (cond (ltb i 192) false false)) ≡ eqb k i
in_first k i h =
    by_place (ltb i 64) (ltb i 128) (ltb i 192) (eqb k i) false false false (eqb k i)
    (λ w. refl)
    (λ w x. let p = ltb-false i 64 w in apart k i (λ e. absurd (omega (arith, h, p, e))))
    (λ x y. let p = ltb-false i 128 x in apart k i (λ e. absurd (omega (arith, h, p, e))))
    (λ y. let p = ltb-false i 192 y in apart k i (λ e. absurd (omega (arith, h, p, e))))

in_second : (k i : ℕ) → 64 ≤ k → k < 128 → cond (ltb i 64) false (cond (ltb i 128) (eqb (k - 64) (i - 64)) (cond (ltb i 192) false false)) ≡ eqb k i
in_second k i low high =
    by_place (ltb i 64) (ltb i 128) (ltb i 192) false (eqb (k - 64) (i - 64)) false false (eqb k i)
    (λ w. let p = ltb-true i 64 w in apart k i (λ e. absurd (omega (arith, low, p, e))))
    (λ w x. shifted 64 k i low (ltb-false i 64 w))
    (λ x y. let p = ltb-false i 128 x in apart k i (λ e. absurd (omega (arith, high, p, e))))
    (λ y. let p = ltb-false i 192 y in apart k i (λ e. absurd (omega (arith, high, p, e))))

in_third : (k i : ℕ) → 128 ≤ k → k < 192 → cond (ltb i 64) false (cond (ltb i 128) false (cond (ltb i 192) (eqb (k - 128) (i - 128)) false)) ≡ eqb k i
in_third k i low high =
    by_place (ltb i 64) (ltb i 128) (ltb i 192) false false (eqb (k - 128) (i - 128)) false (eqb k i)
    (λ w. let p = ltb-true i 64 w in apart k i (λ e. absurd (omega (arith, low, p, e))))
    (λ w x. let p = ltb-true i 128 x in apart k i (λ e. absurd (omega (arith, low, p, e))))
    (λ x y. shifted 128 k i low (ltb-false i 128 x))
    (λ y. let p = ltb-false i 192 y in apart k i (λ e. absurd (omega (arith, high, p, e))))

in_fourth : (k i : ℕ) → 192 ≤ k → cond (ltb i 64) false (cond (ltb i 128) false (cond (ltb i 192) false (eqb (k - 192) (i - 192)))) ≡ eqb k i
in_fourth k i low =
    by_place (ltb i 64) (ltb i 128) (ltb i 192) false false false (eqb (k - 192) (i - 192)) (eqb k i)
    (λ w. let p = ltb-true i 64 w in apart k i (λ e. absurd (omega (arith, low, p, e))))
    (λ w x. let p = ltb-true i 128 x in apart k i (λ e. absurd (omega (arith, low, p, e))))
    (λ x y. let p = ltb-true i 192 y in apart k i (λ e. absurd (omega (arith, low, p, e))))
    (λ y. shifted 192 k i low (ltb-false i 192 y))

-- what holds of each of four words holds of the one that is chosen
pub of_chosen : (w x y : Bool) (a b c d : Slots) (Holds : Slots → Type 0) → (w ≡ true → Holds a) → (w ≡ false → x ≡ true → Holds b) → (x ≡ false → y ≡ true → Holds c) → (y ≡ false → Holds d) → Holds (cond w a (cond x b (cond y c d)))
of_chosen true x y a b c d Holds p q s u = p refl
of_chosen false true y a b c d Holds p q s u = q refl refl
of_chosen false false true a b c d Holds p q s u = s refl refl
of_chosen false false false a b c d Holds p q s u = u refl

abbrev pub one_word : ℕ → ℕ → ℕ → ℕ → Slots
one_word a b c d = record { first = a; second = b; third = c; fourth = d }

pub only_law : (k i : ℕ) → has (only k) i ≡ eqb k i
unfolding only
only_law k i =
    of_chosen (ltb k 64) (ltb k 128) (ltb k 192) (one_word (2 ^ k) 0 0 0) (one_word 0 (2 ^ (k - 64)) 0 0) (one_word 0 0 (2 ^ (k - 128)) 0) (one_word 0 0 0 (2 ^ (k - 192))) (λ (m : Slots). has m i ≡ eqb k i)
    (λ w. has_word (one_word (2 ^ k) 0 0 0) i (eqb k i) false false false (record { first = pow_bit k i; second = zero_bit (i - 64); third = zero_bit (i - 128); fourth = zero_bit (i - 192) })
    ∙ in_first k i (ltb-true k 64 w))
    (λ w x. has_word (one_word 0 (2 ^ (k - 64)) 0 0) i false (eqb (k - 64) (i - 64)) false false (record { first = zero_bit i; second = pow_bit (k - 64) (i - 64); third = zero_bit (i - 128); fourth = zero_bit (i - 192) })
    ∙ in_second k i (ltb-false k 64 w) (ltb-true k 128 x))
    (λ x y. has_word (one_word 0 0 (2 ^ (k - 128)) 0) i false false (eqb (k - 128) (i - 128)) false (record { first = zero_bit i; second = zero_bit (i - 64); third = pow_bit (k - 128) (i - 128); fourth = zero_bit (i - 192) })
    ∙ in_third k i (ltb-false k 128 x) (ltb-true k 192 y))
    (λ y. has_word (one_word 0 0 0 (2 ^ (k - 192))) i false false false (eqb (k - 192) (i - 192)) (record { first = zero_bit i; second = zero_bit (i - 64); third = zero_bit (i - 128); fourth = pow_bit (k - 192) (i - 192) })
    ∙ in_fourth k i (ltb-false k 192 y))

-- ---- the slots of both

larger_one : (x y : ℕ) → x < 2 → y < 2 → eqb (max x y) 1 ≡ (eqb x 1 || eqb y 1)
larger_one zero zero p q = refl
larger_one zero (suc zero) p q = refl
larger_one zero (suc (suc y)) p q = absurd (omega (arith, q))
larger_one (suc zero) zero p q = refl
larger_one (suc zero) (suc zero) p q = refl
larger_one (suc zero) (suc (suc y)) p q = absurd (omega (arith, q))
larger_one (suc (suc x)) y p q = absurd (omega (arith, p))

one_bit : (a b i : ℕ) → eqb (bit_at (bit_or a b) i) 1 ≡ (eqb (bit_at a i) 1 || eqb (bit_at b i) 1)
one_bit a b i = ap (λ (n : ℕ). eqb n 1) (bit_at_or a b i) ∙ larger_one (bit_at a i) (bit_at b i) (bit_at-lt a i) (bit_at-lt b i)

or_by_word : (w x y a b c d e f g h : Bool) → cond w (a || e) (cond x (b || f) (cond y (c || g) (d || h))) ≡ (cond w a (cond x b (cond y c d)) || cond w e (cond x f (cond y g h)))
or_by_word true x y a b c d e f g h = refl
or_by_word false true y a b c d e f g h = refl
or_by_word false false true a b c d e f g h = refl
or_by_word false false false a b c d e f g h = refl

pub own_words : (m : Slots) (slot : ℕ) → Words m slot (eqb (bit_at m.first slot) 1) (eqb (bit_at m.second (slot - 64)) 1) (eqb (bit_at m.third (slot - 128)) 1) (eqb (bit_at m.fourth (slot - 192)) 1)
own_words m slot = record { first = refl; second = refl; third = refl; fourth = refl }

-- the word of its slot says whether a set has it
pub word_told : (m : Slots) (slot : ℕ)
    → has m slot ≡ cond (ltb slot 64) (eqb (bit_at m.first slot) 1) (cond (ltb slot 128) (eqb (bit_at m.second (slot - 64)) 1)
    (cond (ltb slot 192) (eqb (bit_at m.third (slot - 128)) 1) (eqb (bit_at m.fourth (slot - 192)) 1)))
word_told m slot = has_word m slot _ _ _ _ (own_words m slot)

both_of : (a b c d : Bool) → a ≡ c → b ≡ d → (a || b) ≡ (c || d)
both_of a b c d e f = rw (e, f) refl

pub added_law : (m k : Slots) (slot : ℕ) → has (added m k) slot ≡ (has m slot || has k slot)
unfolding added
added_law m k slot =
    let a : Bool = eqb (bit_at m.first slot) 1 in
    let b : Bool = eqb (bit_at m.second (slot - 64)) 1 in
    let c : Bool = eqb (bit_at m.third (slot - 128)) 1 in
    let d : Bool = eqb (bit_at m.fourth (slot - 192)) 1 in
    let e : Bool = eqb (bit_at k.first slot) 1 in
    let f : Bool = eqb (bit_at k.second (slot - 64)) 1 in
    let g : Bool = eqb (bit_at k.third (slot - 128)) 1 in
    let h : Bool = eqb (bit_at k.fourth (slot - 192)) 1 in
    has_word (added m k) slot (a || e) (b || f) (c || g) (d || h)
    (record { first = one_bit m.first k.first slot; second = one_bit m.second k.second (slot - 64); third = one_bit m.third k.third (slot - 128); fourth = one_bit m.fourth k.fourth (slot - 192) })
    ∙ or_by_word (ltb slot 64) (ltb slot 128) (ltb slot 192) a b c d e f g h
    ∙ both_of _ _ _ _ (sym (has_word m slot a b c d (own_words m slot))) (sym (has_word k slot e f g h (own_words k slot)))
