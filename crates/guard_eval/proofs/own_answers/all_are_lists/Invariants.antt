use Rattle.std.proofs.Common.{◌≡◌, drop}
use Rattle.std.specs.List.{list_all}
use Rattle.guard_eval.specs.inside.Gathered.{is_list}
use Rattle.guard_eval.specs.inside.Together.{values_view}
use Rattle.guard_eval.proofs.own_answers.all_are_lists.Given as goal

abbrev pub invariant-loop-value : goal.invariant-loop-value
invariant-loop-value l = list_all is_list (values_view (drop l.value-index l.values)) ≡ list_all is_list (values_view l.values)
