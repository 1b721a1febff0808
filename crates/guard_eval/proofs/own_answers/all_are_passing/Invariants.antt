use Rattle.std.proofs.Common.{◌≡◌, drop}
use Rattle.std.specs.List.{list_all}
use Rattle.guard_model.specs.TypeView.{kind_view}
use Rattle.guard_eval.specs.inside.Together.{gathered_view, passes_all, values_view}
use Rattle.guard_eval.proofs.own_answers.all_are_passing.Given as goal

abbrev pub invariant-loop-value : goal.invariant-loop-value
invariant-loop-value l =
    list_all (passes_all (gathered_view l.cons) (kind_view l.kind)) (values_view (drop l.value-index l.values))
    ≡ list_all (passes_all (gathered_view l.cons) (kind_view l.kind)) (values_view l.values)
