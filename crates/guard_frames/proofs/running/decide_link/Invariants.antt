use Rattle.std.proofs.Common.{◌≡◌, ℕ, false, List, length}
use Rattle.std.specs.Io.KnownBytes.{Consumes}
use Rattle.guard_frames.specs.Frames.{IsUnfinished}
use Rattle.guard_frames.specs.Totals.{no_frames, WentUpBy}
use Rattle.guard_frames.specs.Added.{Added, BothAppend}
use Rattle.guard_frames.specs.Calls.{AsksLines}
use Rattle.guard_frames.specs.Feeding.{Decides}
use Rattle.guard_frames.specs.Leaving.{Watched}
use Rattle.guard_frames.specs.Runs.{CameInPieces}
use Rattle.guard_frames.proofs.running.decide_link.Given as goal

abbrev pub invariant-loop : goal.invariant-loop
invariant-loop g l = record {
  room : length l.buffer.items ≡ 65536;
  open_still : l.link.closed ≡ false;
  asked : WentUpBy (g.S.Source.takes l.initial.source) l.counter (g.S.Source.takes l.source);
  so_far : (read : List ℕ) × (added : Added) × Consumes (g.S.Source.tells l.initial.source) (g.S.Source.tells l.source) read
      × BothAppend (g.O.Sink.taken l.initial.out, g.O.Sink.taken l.out)
      (g.R.Sink.taken l.initial.reports, g.R.Sink.taken l.reports) added
      × Decides (g.D.Decide.decides l.policy) no_frames read l.link.held.items l.link.totals added × IsUnfinished l.link.held.items
      × CameInPieces l.counter read
      × Watched (g.D.Decide.decides l.policy) (g.D.Decide.gives l.policy) (g.D.Decide.lets l.policy) g.W.Watch.notes l.initial.watch read added l.watch;
  lines : AsksLines (g.R.Sink.asked l.initial.reports) (g.R.Sink.asked l.reports);
}
