use Rattle.std.proofs.Common.{◌≡◌}
use Rattle.guard_constraints.proofs.alphabets.codes_of.Given as goal

abbrev pub invariant-loop-character : goal.invariant-loop-character
invariant-loop-character l = l.codes.items ≡ l.yielded
