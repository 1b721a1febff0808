use Rattle.std.proofs.Common.{◌≡◌, ◌||◌, ℕ, pos, drop}
use Rattle.guard_integers.specs.Integers.{some_holds}
use Rattle.guard_eval.specs.Elements.{is_in_some}
use Rattle.guard_eval.proofs.number_sets.codes_in.Given as goal

-- a code is in some range where a set holds it so far, or in one to come
abbrev pub invariant-loop-first : goal.invariant-loop-first
invariant-loop-first l = (c : ℕ) → (some_holds l.sets.items (pos c) || is_in_some (drop l.first-index l.ranges) c) ≡ is_in_some l.ranges c
