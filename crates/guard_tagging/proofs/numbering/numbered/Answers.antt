use Rattle.std.proofs.Common.{[], ◌≤◌, ◌*◌, ◌+◌, map, length, arith}
use Rattle.std.proofs.lemmas.Result.{err_from_is_err_and}
use Rattle.std.proofs.lemmas.List.{map_push}
use Rattle.guard_model.specs.TypeView.{named_view}
use Rattle.guard_syntax.specs.TypeViews.{item_view}
use Rattle.guard_tagging.specs.Named.{named}
use Rattle.guard_tagging.specs.inside.ReadItems.{read_numbered}
use Rattle.guard_tagging.proofs.Numbers.Items.{numbering_stops, next_numbered, all_numbered}
use Rattle.guard_tagging.proofs.numbering.numbered.Goals as goal

pub returns-in_err-item : goal.returns-in_err-item
returns-in_err-item c =
    let p = err_from_is_err_and c.from_residual-in_err-item.result c.from_residual-in_err-item.ensures.1 in
    rw (p.1, p.2) (numbering_stops c.args.taken.now.keys (length c.args.trees.now) c.loop-tree.next
    (map named_view c.loop-tree.items.items) c.args.trees.now c.loop-tree.tree-index
    (read_numbered c.args.taken.now.keys (length c.args.trees.now) 0 []
    (map item_view c.args.trees.now)) c.loop-tree.invariant.1 _ c.loop-tree-test.true
    (named c.in_err-item.field-0.0) c.in_err-item.ensures.gives)

pub loop-tree-preserved : goal.loop-tree-preserved
loop-tree-preserved c =
    let small : c.in_ok-item.after ≤ (c.loop-tree.tree-index + 1) * (length c.args.trees.now + 1) =
    grind (arith, c.in_ok-item.ensures.small, c.loop-tree.invariant.0) in (
      small,
      rw (c.in_ok-push.ensures.items, map_push named_view c.loop-tree.items.items)
          (next_numbered c.args.taken.now.keys (length c.args.trees.now) c.loop-tree.next
          (map named_view c.loop-tree.items.items) c.args.trees.now c.loop-tree.tree-index
          (read_numbered c.args.taken.now.keys (length c.args.trees.now) 0 []
          (map item_view c.args.trees.now)) c.loop-tree.invariant.1 _ c.loop-tree-test.true
          (named_view c.in_ok-item.item) c.in_ok-item.after c.in_ok-item.ensures.gives),
    )

pub returns : goal.returns
returns c =
    all_numbered c.args.taken.now.keys (length c.args.trees.now) c.loop-tree.next
    (map named_view c.loop-tree.items.items) c.args.trees.now c.loop-tree.tree-index
    (read_numbered c.args.taken.now.keys (length c.args.trees.now) 0 []
    (map item_view c.args.trees.now)) c.loop-tree.invariant.1 c.loop-tree-test.false
