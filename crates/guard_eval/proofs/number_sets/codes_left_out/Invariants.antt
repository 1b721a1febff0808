use Rattle.std.proofs.Common.{◌≡◌, not, ◌&&◌, ◌||◌, ℕ, pos, drop}
use Rattle.guard_integers.specs.Integers.{some_holds}
use Rattle.guard_model.specs.Limits.{fits_128_bits}
use Rattle.guard_eval.specs.inside.ValueAnswers.{is_in_each}
use Rattle.guard_eval.proofs.number_sets.codes_left_out.Given as goal

-- the codes left out so far, and those that an alphabet to come doesn't have
abbrev pub invariant-loop-count : goal.invariant-loop-count
invariant-loop-count l =
    (c : ℕ) → (some_holds l.left_out.items (pos c) || (fits_128_bits (pos c) && not (is_in_each (drop l.count l.alphabets) c))) ≡ (fits_128_bits (pos c) && not (is_in_each l.alphabets c))
