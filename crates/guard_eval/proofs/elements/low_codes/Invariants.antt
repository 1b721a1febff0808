use Rattle.std.proofs.Common.{◌≡◌, ◌<◌, ◌||◌, ℕ, false, get_or, length, drop}
use Rattle.guard_eval.specs.Elements.{is_in_some}
use Rattle.guard_eval.proofs.elements.low_codes.Given as goal

-- a code is in some range where it is marked so far, or in one to come
abbrev pub invariant-loop-first : goal.invariant-loop-first
invariant-loop-first l =
    (length l.known ≡ 256) × ((c : ℕ) → c < 256 → (get_or l.known c false || is_in_some (drop l.first-index l.ranges) c) ≡ is_in_some l.ranges c)
