use Rattle.std.proofs.Common.{◌≡◌, ◌≤◌, ◌*◌, ◌+◌, [], drop, map, length}
use Rattle.guard_model.specs.TypeView.{named_view}
use Rattle.guard_syntax.specs.TypeViews.{item_view}
use Rattle.guard_tagging.specs.inside.ReadItems.{read_numbered}
use Rattle.guard_tagging.proofs.numbering.numbered.Given as goal

abbrev pub invariant-loop-tree : goal.invariant-loop-tree
invariant-loop-tree l =
    (l.next ≤ l.tree-index * (length l.trees + 1))
    × (read_numbered l.taken.keys (length l.trees) l.next (map named_view l.items.items)
    (map item_view (drop l.tree-index l.trees))
    ≡ read_numbered l.taken.keys (length l.trees) 0 [] (map item_view l.trees))
