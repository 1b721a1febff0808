use Rattle.std.proofs.Common.{◌≡◌, drop}
use Rattle.std.specs.List.{list_all}
use Rattle.guard_eval.specs.Presence.{has_parts}
use Rattle.guard_eval.specs.inside.Together.{values_view}
use Rattle.guard_eval.proofs.own_answers.all_have_parts.Given as goal

abbrev pub invariant-loop-value : goal.invariant-loop-value
invariant-loop-value l = list_all has_parts (values_view (drop l.value-index l.values)) ≡ list_all has_parts (values_view l.values)
