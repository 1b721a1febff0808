use Rattle.std.proofs.Common.{◌≡◌, ◌≤◌, length}
use Rattle.conformance_decisions.proofs.links.arrays.Given as goal

abbrev pub invariant-loop : goal.invariant-loop
invariant-loop l = (length l.ends.items ≡ l.counter) × (l.counter ≤ l.count)
