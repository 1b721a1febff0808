use Rattle.std.proofs.Common.{◌≡◌, drop}
use Rattle.guard_model.specs.TypeView.{kind_view}
use Rattle.guard_model.specs.ValueView.{value_view}
use Rattle.guard_eval.specs.inside.Together.{gathered_view}
use Rattle.guard_eval.specs.inside.ValueAnswers.{passes_all_at}
use Rattle.guard_eval.proofs.value_answers.all_pass_at.Given as goal

abbrev pub invariant-loop-index : goal.invariant-loop-index
invariant-loop-index l =
    passes_all_at (drop l.index l.places) (gathered_view l.cons) (kind_view l.kind) (value_view l.value) ≡ passes_all_at l.places (gathered_view l.cons) (kind_view l.kind) (value_view l.value)
