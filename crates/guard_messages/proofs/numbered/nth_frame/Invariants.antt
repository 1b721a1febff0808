use Rattle.std.proofs.Common.{◌-◌, ◌≤◌, ◌<◌, ◌^◌}
use Rattle.guard_frames.specs.Totals.{WentUpBy}
use Rattle.guard_messages.proofs.FramesPassed.{PassedSoFar}
use Rattle.guard_messages.proofs.numbered.nth_frame.Given as goal

abbrev pub invariant-loop : goal.invariant-loop
invariant-loop g l = record {
  passed : PassedSoFar (g.S.Source.tells l.initial.source) (g.S.Source.tells l.source) l.counter;
  asked : WentUpBy (g.S.Source.takes l.initial.source) (2 ^ 40 - l.reads) (g.S.Source.takes l.source);
  within : l.counter < l.number;
  left : l.reads ≤ 2 ^ 40;
}
