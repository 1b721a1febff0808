use Rattle.std.proofs.Common.{◌≡◌, ◌++◌, drop}
use Rattle.guard_integers.specs.inside.Computing.{least, greatest}
use Rattle.guard_integers.specs.inside.Computing.{gaps_from}
use Rattle.guard_integers.proofs.lists.gaps.Given as goal

abbrev pub invariant-loop-range : goal.invariant-loop-range
invariant-loop-range l = record {
  so_far : l.gaps.items ++ gaps_from l.left.low (drop l.range-index l.ranges) ≡ gaps_from least l.ranges;
  to_end : l.left.high ≡ greatest;
}
