use Rattle.std.proofs.Common.{◌≡◌, ◌+◌, ◌≤◌, drop, map}
use Rattle.std.specs.Prelude.{min}
use Rattle.guard_model.specs.TypeView.{constraint_view, part_view, constraints_of, parts_of}
use Rattle.guard_model.proofs.Components.{left}
use Rattle.guard_schema.specs.Counting.{held_in_components, constraint_nodes, nodes_of_parts}
use Rattle.guard_schema.proofs.counting.+held.Given as goal

-- ---- with what is still to come it is what all hold

abbrev pub invariant-held_in_components-loop-comp : goal.invariant-held_in_components-loop-comp
invariant-held_in_components-loop-comp l = (l.so_far ≤ 100001)
    × (min (l.so_far + held_in_components (left l.comps l.comp-index)) 100001 ≡ min
    (l.before + held_in_components (left l.comps 0)) 100001)

abbrev pub invariant-constraint_nodes-loop-cons : goal.invariant-constraint_nodes-loop-cons
invariant-constraint_nodes-loop-cons l = record {
  small : l.so_far ≤ 100001;
  to_come : min (l.so_far + constraint_nodes (constraints_of (map constraint_view (drop l.cons-index l.all)))) 100001
      ≡ min (l.before + constraint_nodes (constraints_of (map constraint_view l.all))) 100001;
}

abbrev pub invariant-nodes_of_parts-loop-part : goal.invariant-nodes_of_parts-loop-part
invariant-nodes_of_parts-loop-part l = record {
  small : l.so_far ≤ 100001;
  to_come : min (l.so_far + nodes_of_parts (parts_of (map part_view (drop l.part-index l.parts)))) 100001
      ≡ min (l.before + nodes_of_parts (parts_of (map part_view l.parts))) 100001;
}
