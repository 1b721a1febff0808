use Rattle.std.proofs.Common.{◌≡◌, ◌||◌, ℤ}
use Rattle.guard_integers.specs.Integers.{holds, some_holds}
use Rattle.guard_eval.proofs.number_sets.keep.Given as goal

-- the set that goes on and the others hold together what they held
abbrev pub invariant-loop : goal.invariant-loop
invariant-loop l = (z : ℤ) → (some_holds l.sets.items z || holds l.joined z) ≡ (some_holds l.initial.sets.items z || holds l.fn.set z)
