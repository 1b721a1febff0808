use Rattle.std.proofs.Common.{◌≡◌, ◌++◌, drop}
use Rattle.guard_eval.specs.inside.Together.{values_view, column}
use Rattle.guard_eval.proofs.columns.column.Given as goal

abbrev pub invariant-loop-value : goal.invariant-loop-value
invariant-loop-value l =
    values_view l.parts.items ++ column l.of_choice l.place (values_view (drop l.value-index l.values)) ≡ column l.of_choice l.place (values_view l.values)
