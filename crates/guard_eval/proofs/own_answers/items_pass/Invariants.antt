use Rattle.std.proofs.Common.{◌≡◌, map, drop}
use Rattle.std.specs.List.{list_all}
use Rattle.guard_model.specs.TypeView.{kind_view}
use Rattle.guard_model.specs.ValueView.{value_view}
use Rattle.guard_eval.specs.inside.Together.{gathered_view, passes_all}
use Rattle.guard_eval.proofs.own_answers.items_pass.Given as goal

abbrev pub invariant-loop-item : goal.invariant-loop-item
invariant-loop-item l =
    list_all (passes_all (gathered_view l.cons) (kind_view l.kind)) (map value_view (drop l.item-index l.items))
    ≡ list_all (passes_all (gathered_view l.cons) (kind_view l.kind)) (map value_view l.items)
