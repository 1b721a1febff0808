use Rattle.std.proofs.Common.{◌≡◌, ◌+◌, ◌≤◌, length}
use Rattle.guard_tables.specs.NodesView.{spots_in}
use Rattle.guard_reader.specs.Judging.{element_count}
use Rattle.guard_reader.specs.inside.NodeParts.{sight_at}
use Rattle.guard_reader.proofs.whole.count.Given as goal

abbrev pub invariant-loop-rest : goal.invariant-loop-rest
invariant-loop-rest l = record {
  counted : l.count + element_count (sight_at (spots_in l.table) l.at) l.rest ≡ element_count (sight_at (spots_in l.table) l.at) l.octets;
  room : l.count + length l.rest ≤ length l.octets;
}

abbrev pub decreases-loop-rest : goal.decreases-loop-rest
decreases-loop-rest l = length l.rest
