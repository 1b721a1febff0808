use Rattle.std.proofs.Common.{◌≡◌, [], drop, map}
use Rattle.guard_syntax.specs.TypeViews.{item_view}
use Rattle.guard_tagging.specs.inside.ReadItems.{read_written}
use Rattle.guard_tagging.proofs.numbering.written_numbers.Given as goal

abbrev pub invariant-loop-tree : goal.invariant-loop-tree
invariant-loop-tree l =
    read_written l.numbers.items (map item_view (drop l.tree-index l.trees)) ≡ read_written [] (map item_view l.trees)
