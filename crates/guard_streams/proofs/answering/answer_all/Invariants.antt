use Rattle.std.proofs.Common.{◌+◌, ◌-◌, ◌≤◌, ◌^◌}
use Rattle.guard_frames.specs.Calls.{AsksLines}
use Rattle.guard_frames.specs.Totals.{WentUpBy}
use Rattle.guard_streams.proofs.FramesAnswered.{AnsweredSoFar}
use Rattle.guard_streams.proofs.answering.answer_all.Given as goal

abbrev pub invariant-loop : goal.invariant-loop
invariant-loop g l = record {
  answered : AnsweredSoFar (g.D.Decide.decides l.policy) (g.S.Source.tells l.initial.input) (g.S.Source.tells l.input)
      (g.O.Sink.taken l.initial.out) (g.O.Sink.taken l.out) l.totals;
  asked : WentUpBy (g.S.Source.takes l.initial.input) (2 ^ 40 - l.reads) (g.S.Source.takes l.input);
  left : l.reads + l.counter ≤ 2 ^ 40;
  lines : AsksLines (g.O.Sink.asked l.initial.out) (g.O.Sink.asked l.out);
}
