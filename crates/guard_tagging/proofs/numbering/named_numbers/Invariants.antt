use Rattle.std.proofs.Common.{◌≡◌, drop, map}
use Rattle.guard_model.specs.inside.Each.{each}
use Rattle.guard_model.specs.TypeView.{named_view}
use Rattle.guard_model.proofs.Loops.{with_front}
use Rattle.guard_syntax.specs.TypeViews as written
use Rattle.guard_tagging.specs.inside.ReadItems.{read_named}
use Rattle.guard_tagging.proofs.numbering.named_numbers.Given as goal

abbrev pub invariant-loop-tree : goal.invariant-loop-tree
invariant-loop-tree l =
    with_front (map named_view l.numbers.items) (each read_named (map written.named_view (drop l.tree-index l.trees)))
    ≡ each read_named (map written.named_view l.trees)
