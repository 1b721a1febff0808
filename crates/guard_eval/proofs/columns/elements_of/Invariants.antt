use Rattle.std.proofs.Common.{◌≡◌, ◌++◌, drop}
use Rattle.guard_eval.specs.inside.Together.{values_view, elements_of}
use Rattle.guard_eval.proofs.columns.elements_of.Given as goal

abbrev pub invariant-loop-value : goal.invariant-loop-value
invariant-loop-value l = values_view l.elements.items ++ elements_of (values_view (drop l.value-index l.values)) ≡ elements_of (values_view l.values)
