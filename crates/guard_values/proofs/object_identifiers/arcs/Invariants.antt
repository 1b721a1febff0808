use Rattle.std.proofs.Common.{◌≡◌, drop, map}
use Rattle.guard_model.specs.inside.Each.{each}
use Rattle.guard_model.proofs.Loops.{with_front}
use Rattle.guard_syntax.specs.Views.{arc_view}
use Rattle.guard_values.specs.inside.Reading.{read_arc}
use Rattle.guard_values.proofs.object_identifiers.arcs.Given as goal

abbrev pub invariant-loop-tree : goal.invariant-loop-tree
invariant-loop-tree l = with_front l.arcs.items (each read_arc (map arc_view (drop l.tree-index l.trees))) ≡ each read_arc (map arc_view l.trees)
