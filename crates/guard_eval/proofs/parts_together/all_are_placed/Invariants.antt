use Rattle.std.proofs.Common.{◌≡◌, drop}
use Rattle.std.specs.List.{list_all}
use Rattle.guard_eval.specs.inside.Together.{values_view}
use Rattle.guard_eval.specs.inside.PartsTogether.{are_placed}
use Rattle.guard_eval.proofs.parts_together.all_are_placed.Given as goal

abbrev pub invariant-loop-value : goal.invariant-loop-value
invariant-loop-value l = list_all (are_placed l.demands) (values_view (drop l.value-index l.values)) ≡ list_all (are_placed l.demands) (values_view l.values)
