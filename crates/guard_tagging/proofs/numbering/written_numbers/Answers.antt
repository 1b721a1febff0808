use Rattle.std.proofs.Common.{[], map}
use Rattle.std.proofs.lemmas.Result.{err_from_is_err_and}
use Rattle.guard_syntax.specs.TypeViews.{item_view}
use Rattle.guard_tagging.specs.Named.{named}
use Rattle.guard_tagging.specs.inside.ReadItems.{read_written}
use Rattle.guard_tagging.proofs.Numbers.Items.{written_stops, next_written, all_written}
use Rattle.guard_tagging.proofs.numbering.written_numbers.Goals as goal

pub returns-in_err-own : goal.returns-in_err-own
returns-in_err-own c =
    let p = err_from_is_err_and c.from_residual.result c.from_residual.ensures.1 in
    rw (p.1, p.2) (written_stops c.loop-tree.numbers.items c.args.trees.now c.loop-tree.tree-index
    (read_written [] (map item_view c.args.trees.now)) c.loop-tree.invariant _ c.loop-tree-test.true
    (named c.in_err-own.field-0.0) c.in_err-own.ensures)

pub loop-tree-preserved : goal.loop-tree-preserved
loop-tree-preserved c =
    rw c.in_ok-numbers.ensures (next_written c.loop-tree.numbers.items c.args.trees.now c.loop-tree.tree-index
    (read_written [] (map item_view c.args.trees.now)) c.loop-tree.invariant _ c.loop-tree-test.true c.in_ok-own.own c.in_ok-own.ensures)

pub returns : goal.returns
returns c =
    all_written c.loop-tree.numbers.items c.args.trees.now c.loop-tree.tree-index
    (read_written [] (map item_view c.args.trees.now)) c.loop-tree.invariant c.loop-tree-test.false
