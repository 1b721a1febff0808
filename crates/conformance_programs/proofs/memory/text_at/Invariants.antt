use Rattle.std.proofs.Common.{◌≡◌, drop}
use Rattle.conformance_programs.specs.Memory.{text_at}
use Rattle.conformance_programs.proofs.memory.text_at.Given as goal

abbrev pub invariant-loop-placed : goal.invariant-loop-placed
invariant-loop-placed l = text_at (drop l.placed-index l.texts) l.path ≡ text_at l.texts l.path
