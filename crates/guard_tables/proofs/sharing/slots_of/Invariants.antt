use Rattle.std.proofs.Common.{◌≡◌, ◌≤◌, ◌+◌, drop, length}
use Rattle.guard_tables.specs.inside.Sharing.{slots_for}
use Rattle.guard_tables.proofs.sharing.slots_of.Given as goal

abbrev pub decreases-loop-left : goal.decreases-loop-left
decreases-loop-left l = l.left

-- from the end on
abbrev pub invariant-loop-left : goal.invariant-loop-left
invariant-loop-left l = record {
  gone_through : l.slots ≡ slots_for l.at (l.left + 1) (drop l.left l.places);
  within : l.left ≤ length l.places;
}
