use Rattle.std.proofs.Common.{◌≡◌, drop}
use Rattle.guard_model.specs.TypeView.{kind_view}
use Rattle.guard_model.specs.ValueView.{value_view}
use Rattle.guard_eval.specs.inside.Together.{gathered_view, passes_all}
use Rattle.guard_eval.proofs.own_answers.passes_all.Given as goal

abbrev pub invariant-loop-one : goal.invariant-loop-one
invariant-loop-one l =
    passes_all (gathered_view (drop l.one-index l.cons)) (kind_view l.kind) (value_view l.value) ≡ passes_all (gathered_view l.cons) (kind_view l.kind) (value_view l.value)
