use Rattle.std.proofs.Common.{inl, refl}
use Rattle.std.proofs.lemmas.Result.{err_from_is_err_and}
use Rattle.guard_model.specs.TypeView.{type_view}
use Rattle.guard_schema.specs.Faults.{named}
use Rattle.guard_schema.specs.Outcomes.{Is}
use Rattle.guard_schema.specs.Readings.{HasShortValues}
use Rattle.guard_constraints.specs.Views.{visible_in}
use Rattle.guard_schema.proofs.Filled.Steps.{short_as_meant}
use Rattle.guard_schema.proofs.Turns.Outcomes.{first_refuses}
use Rattle.guard_schema.proofs.constraints.with_short_values.Goals as goal
use Rattle.guard_schema.proofs.constraints.with_short_values.Goals.{then-not-are_known_short+in_ok-check_values, else-not-are_known_short}

pub returns-in_err-check_values-clause-passed : goal.returns-in_err-check_values-clause-passed
returns-in_err-check_values-clause-passed c =
    let p = err_from_is_err_and c.from_residual.result c.from_residual.ensures.1 in
    rw (p.1, p.2) (first_refuses (HasShortValues (type_view c.args.ty)) (λ _. Is (type_view c.args.ty))
    (named c.in_err-check_values.field-0.0) c.in_err-check_values.ensures)

pub returns-clause-passed : goal.returns-clause-passed
returns-clause-passed c = elim c.if-not-are_known_short.branch [
  | then-not-are_known_short+in_ok-check_values w ↦ inl (tt, w.in_ok-check_values.ensures, refl)
  | else-not-are_known_short w ↦
      inl (tt, short_as_meant (visible_in c.args.scope) c.args.name.now c.args.ty c.requires.meant _ c.deref.ensures.value (c.are_known_short.ensures w.if-not-are_known_short.false), refl)
]

pub returns-clause-short : goal.returns-clause-short
returns-clause-short c = elim c.if-not-are_known_short.branch [
  | then-not-are_known_short+in_ok-check_values w ↦ w.in_ok-check_values.ensures
  | else-not-are_known_short w ↦
      short_as_meant (visible_in c.args.scope) c.args.name.now c.args.ty c.requires.meant _ c.deref.ensures.value (c.are_known_short.ensures w.if-not-are_known_short.false)
]
