use Rattle.std.proofs.Common.{◌≡◌, ◌+◌, ◌<◌, ◌||◌, ℕ, false, get_or, length, drop}
use Rattle.guard_eval.specs.Elements.{is_in_some}
use Rattle.guard_eval.proofs.windows.codes_from.Given as goal

-- a code is in some range where it is marked so far, or in one to come
abbrev pub invariant-loop-low : goal.invariant-loop-low
invariant-loop-low l =
    (length l.known ≡ 1024)
    × ((place : ℕ) → place < 1024 → (get_or l.known place false || is_in_some (drop l.low-index l.ranges) (l.first + place)) ≡ is_in_some l.ranges (l.first + place))
