use Rattle.std.proofs.Common.{◌≡◌, take, map}
use Rattle.guard_syntax.specs.TypeViews as written
use Rattle.guard_tagging.specs.inside.ReadNames.{item_place}
use Rattle.guard_tagging.specs.inside.Views.{place_view}
use Rattle.guard_tagging.proofs.names.item_places.Given as goal

abbrev pub invariant-loop-tree : goal.invariant-loop-tree
invariant-loop-tree l =
    map place_view l.places.items ≡ map item_place (map written.item_view (take l.tree-index l.trees))
