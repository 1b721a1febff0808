use Rattle.std.proofs.Common.{◌≡◌, ◌++◌, ◌+◌, ◌-◌, drop, length}
use Rattle.guard_integers.specs.inside.Computing.{common_of}
use Rattle.guard_integers.proofs.lists.common.Given as goal

abbrev pub invariant-loop-at_first : goal.invariant-loop-at_first
invariant-loop-at_first l = l.common.items ++ common_of (drop l.at_first l.first) (drop l.at_second l.second) ≡ common_of l.first l.second

abbrev pub decreases-loop-at_first : goal.decreases-loop-at_first
decreases-loop-at_first l = (length l.first - l.at_first) + (length l.second - l.at_second)
