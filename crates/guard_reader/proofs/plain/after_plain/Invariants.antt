use Rattle.std.proofs.Common.{◌≡◌, ◌≤◌, length}
use Rattle.guard_tables.specs.declared.slots.Slots.{Slots}
use Rattle.guard_reader.specs.inside.NodeParts.{pass_at, sight_at}
use Rattle.guard_tables.specs.NodesView.{spots_in}
use Rattle.guard_reader.specs.Judging.{elements}
use Rattle.guard_reader.proofs.plain.after_plain.Given as goal

abbrev pub invariant-loop-node : goal.invariant-loop-node
invariant-loop-node l = record {
  shorter : length l.rest ≤ length l.fn.octets;
  same : (m : Slots) → elements (sight_at (spots_in l.table) l.at) (pass_at (spots_in l.table) l.at) l.rest m ≡ elements (sight_at (spots_in l.table) l.at) (pass_at (spots_in l.table) l.at) l.fn.octets m;
}

abbrev pub decreases-loop-node : goal.decreases-loop-node
decreases-loop-node l = length l.rest
