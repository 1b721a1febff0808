use Rattle.std.proofs.Common.{◌≡◌, drop}
use Rattle.std.specs.List.{list_all}
use Rattle.guard_model.specs.TypeView.{type_view}
use Rattle.guard_eval.specs.inside.Together.{keeps_own, values_view}
use Rattle.guard_eval.proofs.own_answers.all_keep_own_one_by_one.Given as goal

abbrev pub invariant-loop-value : goal.invariant-loop-value
invariant-loop-value l =
    list_all (keeps_own (type_view l.ty)) (values_view (drop l.value-index l.values)) ≡ list_all (keeps_own (type_view l.ty)) (values_view l.values)
