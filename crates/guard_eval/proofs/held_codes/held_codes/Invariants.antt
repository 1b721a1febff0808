use Rattle.std.proofs.Common.{◌≡◌, ◌<◌, ℕ, pos, get_or, length}
use Rattle.guard_integers.specs.Integers.{holds}
use Rattle.guard_eval.proofs.held_codes.held_codes.Given as goal

abbrev pub invariant-loop-code : goal.invariant-loop-code
invariant-loop-code l = (length l.first ≡ 256) × ((c : ℕ) → c < l.code → get_or l.first c (holds l.set (pos c)) ≡ holds l.set (pos c))
