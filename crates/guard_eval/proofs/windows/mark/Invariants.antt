use Rattle.std.proofs.Common.{◌≡◌, ◌<◌, ◌≤◌, ℕ, ◌+◌, true, false, get_or, length}
use Rattle.guard_eval.proofs.windows.mark.Given as goal

abbrev pub invariant-loop-place : goal.invariant-loop-place
invariant-loop-place l =
    (length l.known ≡ length l.initial.known)
    × ((c : ℕ) → l.start ≤ c → c < l.place → (get_or l.known c false ≡ true) × (l.begin + c ≤ l.high))
    × ((c : ℕ) → c < l.start → get_or l.known c false ≡ get_or l.initial.known c false)
    × ((c : ℕ) → l.place ≤ c → get_or l.known c false ≡ get_or l.initial.known c false)
