use Rattle.std.proofs.Common.{◌≡◌, ◌+◌, ◌≤◌, drop, flat_map, length}
use Rattle.guard_der.specs.Contents.{arcs_octets}
use Rattle.guard_der.specs.Encoding.{longest_encoding, short}
use Rattle.guard_der.specs.Octets.{base_128}
use Rattle.guard_der.proofs.lengths.arcs_length.Given as goal

abbrev pub invariant-loop-arc : goal.invariant-loop-arc
invariant-loop-arc l = record {
  so_far : short (l.so_far + length (flat_map base_128 (drop l.arc-index l.others))) ≡ short (length (arcs_octets l.arcs));
  low : l.so_far ≤ longest_encoding;
}
