use Rattle.std.proofs.Common.{◌+◌, ◌-◌, ◌≤◌, ◌^◌}
use Rattle.guard_frames.specs.Totals.{WentUpBy}
use Rattle.guard_messages.proofs.LinkedFrames.{LinkedSoFar}
use Rattle.guard_messages.proofs.linked.linked_frame.Given as goal

abbrev pub invariant-loop : goal.invariant-loop
invariant-loop g l = record {
  linked : LinkedSoFar l.link l.number (g.S.Source.tells l.initial.source) (g.S.Source.tells l.source) l.held.items l.before;
  asked : WentUpBy (g.S.Source.takes l.initial.source) (2 ^ 40 - l.reads) (g.S.Source.takes l.source);
  left : l.reads + l.counter ≤ 2 ^ 40;
}
