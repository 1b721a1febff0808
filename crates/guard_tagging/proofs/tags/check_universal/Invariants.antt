use Rattle.std.proofs.Common.{◌≡◌, drop, map}
use Rattle.guard_syntax.specs.TypeViews.{tag_view}
use Rattle.guard_tagging.specs.Faults.{universal_tag}
use Rattle.guard_tagging.proofs.tags.check_universal.Given as goal

abbrev pub invariant-loop-tree : goal.invariant-loop-tree
invariant-loop-tree l =
    universal_tag (map tag_view (drop l.tree-index l.written)) ≡ universal_tag (map tag_view l.written)
