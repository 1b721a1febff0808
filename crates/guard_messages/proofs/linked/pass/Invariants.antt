use Rattle.std.proofs.Common.{◌≡◌, ◌+◌, ◌-◌, ◌≤◌, ℕ, drop, length}
use Rattle.guard_messages.specs.inside.Passed.{AreFrames}
use Rattle.guard_messages.proofs.linked.pass.Given as goal

abbrev pub invariant-loop-frame : goal.invariant-loop-frame
invariant-loop-frame l = record {
  within : l.at ≤ length l.octets;
  passed : (count : ℕ) × (l.before + count ≡ l.initial.before) × AreFrames l.octets count (drop l.at l.octets);
}

abbrev pub decreases-loop-frame : goal.decreases-loop-frame
decreases-loop-frame l = length l.octets - l.at
