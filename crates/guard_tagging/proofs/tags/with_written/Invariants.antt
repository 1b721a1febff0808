use Rattle.std.proofs.Common.{◌≡◌, drop, map}
use Rattle.std.specs.Prelude.{is_some}
use Rattle.guard_syntax.specs.TypeViews.{tag_view}
use Rattle.guard_tagging.specs.inside.ReadTags.{in_front, read_tags}
use Rattle.guard_tagging.proofs.tags.with_written.Given as goal

abbrev pub invariant-loop-tree : goal.invariant-loop-tree
invariant-loop-tree l =
    read_tags l.node.tag_default l.replaced l.tags.items (map tag_view (drop l.tree-index l.node.tags.now)) l.base
    ≡ read_tags l.node.tag_default (is_some l.node.automatic) (in_front l.node.automatic)
    (map tag_view l.node.tags.now) l.base
