use Rattle.std.proofs.Common.{◌≡◌, ◌++◌, map, drop}
use Rattle.guard_model.specs.ValueView.{value_view}
use Rattle.guard_eval.specs.inside.Together.{values_view}
use Rattle.guard_eval.proofs.columns.add_items.Given as goal

abbrev pub invariant-loop-item : goal.invariant-loop-item
invariant-loop-item l =
    values_view l.elements.items ++ map value_view (drop l.item-index l.items) ≡ values_view l.initial.elements.items ++ map value_view l.items
