use Rattle.std.proofs.Common.{◌≡◌, ◌++◌, drop, map}
use Rattle.guard_constraints.specs.PermittedAlphabets.{ranges_of}
use Rattle.guard_constraints.specs.Views.{item_view}
use Rattle.guard_constraints.proofs.alphabets.ranges_of.Given as goal

abbrev pub invariant-loop-item : goal.invariant-loop-item
invariant-loop-item l = l.ranges.items ++ ranges_of (map item_view (drop l.item-index l.items)) ≡ ranges_of (map item_view l.items)
