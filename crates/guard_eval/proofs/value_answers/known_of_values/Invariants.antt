use Rattle.std.proofs.Common.{◌≡◌, ◌&&◌, drop}
use Rattle.guard_model.specs.AbstractType.{AbstractKind}
use Rattle.guard_model.specs.AbstractValue.{AbstractValue}
use Rattle.guard_eval.specs.inside.Together.{gathered_view, passes_all}
use Rattle.guard_eval.specs.inside.ValueAnswers.{is_sized_by_all, is_spelled_in_each, passes_all_at}
use Rattle.guard_eval.proofs.value_answers.known_of_values.Given as goal

-- what is gathered so far and what is to come ask as much as all
abbrev pub invariant-loop-place : goal.invariant-loop-place
invariant-loop-place l =
    (kind : AbstractKind) (v : AbstractValue) →
    (((is_sized_by_all (gathered_view l.sizes.items) kind v && is_spelled_in_each l.alphabets.items v) && passes_all_at l.others.items (gathered_view l.cons) kind v)
    && passes_all (gathered_view (drop l.place l.cons)) kind v)
    ≡ passes_all (gathered_view l.cons) kind v
