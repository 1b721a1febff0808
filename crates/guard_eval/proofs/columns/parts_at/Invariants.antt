use Rattle.std.proofs.Common.{◌≡◌, ◌++◌, drop}
use Rattle.guard_eval.specs.inside.Gathered.{parts_at}
use Rattle.guard_eval.specs.inside.Together.{values_view}
use Rattle.guard_eval.proofs.columns.parts_at.Given as goal

abbrev pub invariant-loop-value : goal.invariant-loop-value
invariant-loop-value l = values_view l.parts.items ++ parts_at l.place (values_view (drop l.value-index l.values)) ≡ parts_at l.place (values_view l.values)
