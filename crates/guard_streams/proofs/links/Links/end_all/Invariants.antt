use Rattle.std.proofs.Common.{ℕ, List}
use Rattle.guard_files.specs.Files.{Told}
use Rattle.guard_streams.specs.inside.Doing.{IsReady}
use Rattle.guard_streams.proofs.EndsTaken.{EndedSoFar}
use Rattle.guard_streams.proofs.links.Links.end_all.Given as goal

abbrev pub invariant-loop-link : goal.invariant-loop-link
invariant-loop-link g l = record {
  ready : IsReady l.self.gateway;
  ended : (path : List ℕ) (told : Told) → EndedSoFar path told l.initial.self l.self (g.E.Sink.taken l.initial.err)
      (g.E.Sink.taken l.err) l.link;
}
