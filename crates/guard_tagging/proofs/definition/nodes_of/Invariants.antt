use Rattle.std.proofs.Common.{◌≡◌, ◌+◌, ◌≤◌, map, drop}
use Rattle.std.specs.Prelude.{min}
use Rattle.guard_model.specs.TypeView.{shared_type_view}
use Rattle.guard_tagging.specs.Surroundings.{nodes_of_all}
use Rattle.guard_tagging.proofs.definition.nodes_of.Given as goal

abbrev pub invariant-loop-ty : goal.invariant-loop-ty
invariant-loop-ty l =
    (l.so_far ≤ 100001) × (min (l.so_far + nodes_of_all (map shared_type_view (drop l.ty-index l.types))) 100001
    ≡ min (nodes_of_all (map shared_type_view l.types)) 100001)
