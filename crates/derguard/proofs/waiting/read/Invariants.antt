use Rattle.std.specs.Io.KnownBytes.{Keeps}
use Rattle.derguard.proofs.waiting.read.Given as goal

abbrev pub invariant-turns : goal.invariant-turns
invariant-turns g l = Keeps (g.R.Read.remaining l.initial.inner) (g.R.Read.remaining l.inner)
