use Rattle.std.proofs.Common.{◌≡◌, map, refl}
use Rattle.std.specs.Prelude.{is_some}
use Rattle.std.proofs.lemmas.Result.{err_from_is_err_and}
use Rattle.guard_syntax.specs.TypeViews.{tag_view}
use Rattle.guard_tagging.specs.Named.{named}
use Rattle.guard_tagging.specs.inside.ReadTags.{in_front, read_tags, unless_replaced}
use Rattle.guard_tagging.proofs.TagLists.OneByOne.{tag_stops, next_tag, no_tag}
use Rattle.guard_tagging.proofs.tags.with_written.Goals as goal
use Rattle.guard_tagging.proofs.tags.with_written.Goals.{then-not-replaced+in_ok-push, else-not-replaced}

pub returns-in_err-tag : goal.returns-in_err-tag
returns-in_err-tag c =
    let p = err_from_is_err_and c.from_residual-in_err-tag.result c.from_residual-in_err-tag.ensures.1 in
    rw (p.1, p.2) (tag_stops c.args.node.now.tag_default c.loop-tree.replaced c.loop-tree.tags.items c.args.node.now.tags.now c.loop-tree.tree-index c.args.base.now (read_tags c.args.node.now.tag_default (is_some c.args.node.now.automatic) (in_front c.args.node.now.automatic) (map tag_view c.args.node.now.tags.now) c.args.base.now) c.loop-tree.invariant
    _ c.loop-tree-test.true (named c.in_err-tag.field-0.0) c.in_err-tag.ensures)

pub loop-tree-preserved : goal.loop-tree-preserved
loop-tree-preserved c =
    let tags : c.if-not-replaced.tags.items
    ≡ unless_replaced c.loop-tree.replaced c.loop-tree.tags.items c.in_ok-tag.tag =
    elim c.if-not-replaced.branch [ then-not-replaced+in_ok-push w ↦ rw (w.tags-is, w.in_ok-push.ensures.items, w.if-not-replaced.true) refl | else-not-replaced w ↦ rw (w.tags-is, w.if-not-replaced.false) refl ] in
    rw (tags, c.is_explicit-replaced.ensures)
    (next_tag c.args.node.now.tag_default c.loop-tree.replaced c.loop-tree.tags.items c.args.node.now.tags.now c.loop-tree.tree-index c.args.base.now (read_tags c.args.node.now.tag_default (is_some c.args.node.now.automatic) (in_front c.args.node.now.automatic) (map tag_view c.args.node.now.tags.now) c.args.base.now) c.loop-tree.invariant
    _ c.loop-tree-test.true c.in_ok-tag.tag c.in_ok-tag.ensures)

pub returns : goal.returns
returns c =
    rw (c.in_ok-extend_from_slice.ensures.items, c.kept.ensures)
    (no_tag c.args.node.now.tag_default c.loop-tree.replaced c.loop-tree.tags.items c.args.node.now.tags.now c.loop-tree.tree-index c.args.base.now (read_tags c.args.node.now.tag_default (is_some c.args.node.now.automatic) (in_front c.args.node.now.automatic) (map tag_view c.args.node.now.tags.now) c.args.base.now) c.loop-tree.invariant c.loop-tree-test.false)
