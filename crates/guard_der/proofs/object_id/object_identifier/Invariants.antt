use Rattle.std.proofs.Common.{drop}
use Rattle.guard_der.proofs.Simple.ObjectIdentifiers.{ReadSoFar}
use Rattle.guard_der.proofs.object_id.object_identifier.Given as goal

abbrev pub invariant-loop-index : goal.invariant-loop-index
invariant-loop-index l = ReadSoFar l.octets l.arcs.items (drop l.index l.octets) l.starts l.number
