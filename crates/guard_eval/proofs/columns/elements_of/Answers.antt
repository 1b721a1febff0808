use Rattle.std.proofs.Common.{sym}
use Rattle.guard_eval.specs.inside.Together.{values_view}
use Rattle.guard_eval.proofs.ManyValues.{elements_next}
use Rattle.guard_eval.proofs.columns.elements_of.Goals as goal

pub loop-value-preserved : goal.loop-value-preserved
loop-value-preserved c =
    elements_next c.args.values.now c.loop-value.value-index c.value-item.result (values_view c.loop-value.elements.items) _ _ _ c.loop-value-test.true c.value-item.is
    (sym c.items_in.ensures) c.in_ok-add_items.ensures c.loop-value.invariant
