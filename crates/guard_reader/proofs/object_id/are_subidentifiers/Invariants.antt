use Rattle.std.proofs.Common.{◌≡◌, drop, true}
use Rattle.guard_reader.specs.Octets.{reads_on}
use Rattle.guard_reader.proofs.object_id.are_subidentifiers.Given as goal

abbrev pub invariant-loop-octet : goal.invariant-loop-octet
invariant-loop-octet l = reads_on l.starts l.number (drop l.octet-index l.inside) ≡ reads_on true 0 l.inside
