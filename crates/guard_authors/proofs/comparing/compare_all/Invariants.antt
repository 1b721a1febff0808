use Rattle.std.proofs.Common.{◌+◌, ◌-◌, ◌≤◌, ◌^◌}
use Rattle.guard_frames.specs.Totals.{WentUpBy}
use Rattle.guard_authors.specs.Differing.{comparison_view}
use Rattle.guard_authors.proofs.FramesCompared.{ComparedSoFar}
use Rattle.guard_authors.proofs.comparing.compare_all.Given as goal

abbrev pub invariant-loop : goal.invariant-loop
invariant-loop g l = record {
  so_far : ComparedSoFar (comparison_view l.comparison) l.origin (g.S.Source.tells l.initial.input) (g.S.Source.tells l.input)
      (g.O.Sink.taken l.initial.out) (g.O.Sink.taken l.out) l.held.items l.sums;
  asked : WentUpBy (g.S.Source.takes l.initial.input) (2 ^ 40 - l.reads) (g.S.Source.takes l.input);
  left : l.reads + l.counter ≤ 2 ^ 40;
}
