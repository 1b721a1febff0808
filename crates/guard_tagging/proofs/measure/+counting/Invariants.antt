use Rattle.std.proofs.Common.{◌≡◌, ◌+◌, ◌≤◌}
use Rattle.std.specs.Prelude.{min}
use Rattle.guard_tagging.specs.Faults.{nodes_of_components}
use Rattle.guard_model.proofs.Components.{left}
use Rattle.guard_tagging.proofs.measure.+counting.Given as goal

abbrev pub invariant-nodes_of-loop-comp : goal.invariant-nodes_of-loop-comp
invariant-nodes_of-loop-comp l =
    (l.so_far ≤ 100001) × (min (l.so_far + nodes_of_components (left l.comps l.comp-index)) 100001
    ≡ min (l.before + nodes_of_components (left l.comps 0)) 100001)
