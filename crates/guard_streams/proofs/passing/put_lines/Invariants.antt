use Rattle.std.proofs.Common.{◌≡◌, ◌++◌, ℕ, List, length}
use Rattle.std.specs.Io.KnownBytes.{Appends}
use Rattle.std.specs.List.{All}
use Rattle.guard_frames.specs.Calls.{AsksLines}
use Rattle.guard_streams.specs.Passing.{IsShort, lines_of, marked}
use Rattle.guard_streams.proofs.passing.put_lines.Given as goal

abbrev pub invariant-loop-rest : goal.invariant-loop-rest
invariant-loop-rest g l = (done : List ℕ) × Appends (g.E.Sink.taken l.initial.err) (g.E.Sink.taken l.err) done × (marked l.link l.initial.rest ≡ done ++ marked l.link l.rest)
    × (All IsShort (lines_of l.initial.rest) → All IsShort (lines_of l.rest))
    × (All IsShort (lines_of l.initial.rest) → AsksLines (g.E.Sink.asked l.initial.err) (g.E.Sink.asked l.err))

abbrev pub decreases-loop-rest : goal.decreases-loop-rest
decreases-loop-rest g l = length l.rest
