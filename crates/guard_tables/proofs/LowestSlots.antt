-- The slot of a set that has the lowest number.
use Rattle.std.proofs.Common.{◌≡◌, ℕ, ◌+◌, ◌-◌, ◌<◌, false, eqb, subst, ap, ◌∙◌, arith, inl, inr}
use Rattle.std.specs.Prelude.{Some}
use Rattle.std.specs.Int.{bit_at}
use Rattle.std.proofs.lemmas.Bool.{cases_lt}
use Rattle.guard_tables.specs.declared.slots.Slots.{Slots}
use Rattle.guard_tables.specs.Slots.{none, has, IsLowest}
use Rattle.guard_tables.specs.inside.SlotWords.{IsLowestBit}
use Rattle.guard_tables.proofs.SlotSets.{zero_bit}
use Rattle.guard_tables.proofs.SlotWords.{in_first, in_second, in_third, in_fourth, of_words}

-- the set has the bits of this word, the first of which has this slot
abbrev Holds : Slots → ℕ → ℕ → Type 0
Holds m word slot = (i : ℕ) → i < 64 → has m (slot + i) ≡ eqb (bit_at word i) 1

-- it has no slot below this one
abbrev Lacks : Slots → ℕ → Type 0
Lacks m slot = (i : ℕ) → i < slot → has m i ≡ false

-- nor below the next word, where this one is 0
past : (m : Slots) (word slot : ℕ) → Holds m word slot → word ≡ 0 → Lacks m slot → Lacks m (slot + 64)
past m word slot holds is lacks i lt = elim (cases_lt i slot) [
  | inl before ↦ lacks i before
  | inr from ↦
      ap (has m) (omega (arith, from)) ∙ holds (i - slot) (omega (arith, from, lt))
      ∙ ap (λ (w : ℕ). eqb (bit_at w (i - slot)) 1) is ∙ zero_bit (i - slot)
]

in_word : (m : Slots) (word slot place : ℕ) → Holds m word slot → Lacks m slot → IsLowestBit word place → IsLowest m (Some (slot + place))
in_word m word slot place holds lacks lowest = (
  holds place lowest.within ∙ ap (λ (n : ℕ). eqb n 1) lowest.set,
  λ i lt. elim (cases_lt i slot) [
    | inl before ↦ lacks i before
    | inr from ↦
        let near : i - slot < place = omega (arith, from, lt) in
        let within = lowest.within in
        ap (has m) (omega (arith, from)) ∙ holds (i - slot) (omega (arith, near, within)) ∙ ap (λ (n : ℕ). eqb n 1) (lowest.others (i - slot) near)
  ],
)

holds_first : (m : Slots) → Holds m m.first 0
holds_first m i lt = ap (has m) (omega arith) ∙ in_first m i lt

lacks_nothing : (m : Slots) → Lacks m 0
lacks_nothing m i lt = absurd (omega (arith, lt))

lacks_first : (m : Slots) → m.first ≡ 0 → Lacks m 64
lacks_first m a = past m m.first 0 (holds_first m) a (lacks_nothing m)

lacks_second : (m : Slots) → m.first ≡ 0 → m.second ≡ 0 → Lacks m 128
lacks_second m a b = past m m.second 64 (in_second m) b (lacks_first m a)

lacks_third : (m : Slots) → m.first ≡ 0 → m.second ≡ 0 → m.third ≡ 0 → Lacks m 192
lacks_third m a b c = past m m.third 128 (in_third m) c (lacks_second m a b)

pub first_lowest : (m : Slots) (place : ℕ) → IsLowestBit m.first place → IsLowest m (Some place)
first_lowest m place lowest = subst (λ (n : ℕ). IsLowest m (Some n)) (omega arith) (in_word m m.first 0 place (holds_first m) (lacks_nothing m) lowest)

pub second_lowest : (m : Slots) (place : ℕ) → m.first ≡ 0 → IsLowestBit m.second place → IsLowest m (Some (64 + place))
second_lowest m place a = in_word m m.second 64 place (in_second m) (lacks_first m a)

pub third_lowest : (m : Slots) (place : ℕ) → m.first ≡ 0 → m.second ≡ 0 → IsLowestBit m.third place → IsLowest m (Some (128 + place))
third_lowest m place a b = in_word m m.third 128 place (in_third m) (lacks_second m a b)

pub fourth_lowest : (m : Slots) (place : ℕ) → m.first ≡ 0 → m.second ≡ 0 → m.third ≡ 0 → IsLowestBit m.fourth place → IsLowest m (Some (192 + place))
fourth_lowest m place a b c = in_word m m.fourth 192 place (λ i lt. in_fourth m i) (lacks_third m a b c)

pub none_left : (m : Slots) → m.first ≡ 0 → m.second ≡ 0 → m.third ≡ 0 → m.fourth ≡ 0 → m ≡ none
unfolding none
none_left m a b c d = of_words m none a b c d
