use Rattle.std.specs.Io.KnownBytes.{Keeps}
use Rattle.derguard.proofs.waiting.write.Given as goal

abbrev pub invariant-turns : goal.invariant-turns
invariant-turns g l = Keeps (g.W.Write.contents l.initial.inner) (g.W.Write.contents l.inner)
