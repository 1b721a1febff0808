use Rattle.std.proofs.Common.{◌+◌, ◌-◌, ◌≤◌, ◌^◌}
use Rattle.std.specs.Prelude.{option_map}
use Rattle.guard_frames.specs.Totals.{WentUpBy}
use Rattle.guard_streams.specs.CountingLinks.{ShowsBetween}
use Rattle.guard_streams.specs.inside.Doing.{mux_of}
use Rattle.guard_streams.proofs.Taking.{TakenSoFar}
use Rattle.guard_streams.proofs.muxing.guard.Given as goal

abbrev pub invariant-loop : goal.invariant-loop
invariant-loop g l = record {
  taken : TakenSoFar l.path (mux_of (g.F.Files.told l.initial.files) l.initial.links)
      (g.S.Source.tells l.initial.input) (g.S.Source.tells l.input)
      (g.O.Sink.taken l.initial.out) (g.O.Sink.taken l.out) (g.E.Sink.taken l.initial.err) (g.E.Sink.taken l.err)
      (g.F.Files.told l.files) l.links;
  asked : WentUpBy (g.S.Source.takes l.initial.input) (2 ^ 40 - l.reads) (g.S.Source.takes l.input);
  left : l.reads + l.counter ≤ 2 ^ 40;
  shown : ShowsBetween l.path (mux_of (g.F.Files.told l.initial.files) l.initial.links)
      (g.S.Source.tells l.initial.input) (g.S.Source.tells l.input) (option_map (λ p. p.now) l.place)
      (g.B.Board.shown l.initial.counters.board) (g.B.Board.shown l.counters.board);
}
