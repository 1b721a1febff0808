use Rattle.std.proofs.Common.{map, refl}
use Rattle.std.proofs.lemmas.Result.{err_from_is_err_and}
use Rattle.guard_model.specs.inside.Each.{each}
use Rattle.guard_model.proofs.Loops.{stops_at, goes_on, ends_there}
use Rattle.guard_syntax.specs.Views.{arc_view}
use Rattle.guard_values.specs.inside.Reading.{read_arc}
use Rattle.guard_values.specs.Views.{named}
use Rattle.guard_values.proofs.object_identifiers.arcs.Goals as goal

pub returns-in_err-arc : goal.returns-in_err-arc
returns-in_err-arc c =
    let p = err_from_is_err_and c.from_residual-in_err-arc.result c.from_residual-in_err-arc.ensures.1 in
    rw (p.1, p.2) (stops_at read_arc arc_view c.loop-tree.arcs.items c.args.trees.now c.loop-tree.tree-index (each read_arc (map arc_view c.args.trees.now)) c.loop-tree.invariant
    _ _ c.loop-tree-test.true refl (named c.in_err-arc.field-0.0) c.in_err-arc.ensures)

pub loop-tree-preserved : goal.loop-tree-preserved
loop-tree-preserved c =
    rw c.in_ok-push.ensures.items (goes_on read_arc arc_view c.loop-tree.arcs.items c.args.trees.now c.loop-tree.tree-index (each read_arc (map arc_view c.args.trees.now)) c.loop-tree.invariant
    _ _ c.loop-tree-test.true refl c.in_ok-arc.arc c.in_ok-arc.ensures)

pub returns : goal.returns
returns c =
    ends_there read_arc arc_view c.loop-tree.arcs.items c.args.trees.now c.loop-tree.tree-index (each read_arc (map arc_view c.args.trees.now)) c.loop-tree.invariant c.loop-tree-test.false
