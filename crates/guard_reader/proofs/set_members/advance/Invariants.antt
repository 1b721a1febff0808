use Rattle.std.proofs.Common.{◌-◌, ◌≤◌}
use Rattle.guard_reader.specs.inside.Ranks.{AreBelow}
use Rattle.guard_reader.proofs.set_members.advance.Given as goal

abbrev pub invariant-loop-at : goal.invariant-loop-at
invariant-loop-at l = (l.at ≤ l.count) × AreBelow l.table l.first l.at l.floor

abbrev pub decreases-loop-at : goal.decreases-loop-at
decreases-loop-at l = l.count - l.at
