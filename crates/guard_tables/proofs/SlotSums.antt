-- Sums of sets of slots.
use Rattle.std.proofs.Common.{◌≡◌, ℕ, refl, arith}
use Rattle.std.specs.Int.Bits.{bit_or, or_zero_r, or_zero_l}
use Rattle.std.proofs.lemmas.Nat.{or_comm}
use Rattle.std.proofs.lemmas.Nat.Bits.{bit_at_or, same_from_bits}
use Rattle.guard_tables.specs.declared.slots.Slots.{Slots}
use Rattle.guard_tables.specs.Slots.{none, added}

pub added_none : (m : Slots) → added m none ≡ m
unfolding added none
added_none m = rw (or_zero_r m.first, or_zero_r m.second, or_zero_r m.third, or_zero_r m.fourth) refl

pub none_added : (m : Slots) → added none m ≡ m
unfolding added none
none_added m = rw (or_zero_l m.first, or_zero_l m.second, or_zero_l m.third, or_zero_l m.fourth) refl

or_again : (a b c : ℕ) → bit_or (bit_or a b) c ≡ bit_or a (bit_or b c)
or_again a b c = same_from_bits (bit_or (bit_or a b) c) (bit_or a (bit_or b c)) (λ i. rw (bit_at_or (bit_or a b) c i, bit_at_or a b i, bit_at_or a (bit_or b c) i, bit_at_or b c i) (omega arith))

pub added_again : (m k j : Slots) → added (added m k) j ≡ added m (added k j)
unfolding added
added_again m k j = rw (or_again m.first k.first j.first, or_again m.second k.second j.second, or_again m.third k.third j.third, or_again m.fourth k.fourth j.fourth) refl

pub added_turned : (m k : Slots) → added m k ≡ added k m
unfolding added
added_turned m k = rw (or_comm m.first k.first, or_comm m.second k.second, or_comm m.third k.third, or_comm m.fourth k.fourth) refl
