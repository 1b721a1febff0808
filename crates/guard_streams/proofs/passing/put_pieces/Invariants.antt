use Rattle.std.proofs.Common.{List, ℕ, length}
use Rattle.std.specs.Io.KnownBytes.{Appends}
use Rattle.guard_streams.proofs.PassingLaws.{Continues}
use Rattle.guard_streams.proofs.passing.put_pieces.Given as goal

abbrev pub invariant-loop-rest : goal.invariant-loop-rest
invariant-loop-rest g l = (done : List ℕ) × Appends (g.O.Sink.taken l.initial.out) (g.O.Sink.taken l.out) done × Continues l.link l.initial.rest done l.rest

abbrev pub decreases-loop-rest : goal.decreases-loop-rest
decreases-loop-rest g l = length l.rest
