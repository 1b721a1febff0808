use Rattle.std.proofs.Common.{◌≡◌, ◌++◌, drop, flat_map}
use Rattle.guard_der.specs.Octets.{base_128}
use Rattle.guard_der.specs.Contents.{arcs_octets}
use Rattle.guard_der.proofs.encoding.simple.object_identifier.Given as goal

abbrev pub invariant-loop-arc : goal.invariant-loop-arc
invariant-loop-arc l = l.out.items ++ flat_map base_128 (drop l.arc-index l.others) ≡ arcs_octets l.arcs
