use Rattle.std.proofs.Common.{Some, Ok, inl, refl, subst}
use Rattle.std.proofs.lemmas.Result.{err_from_is_err_and}
use Rattle.guard_model.specs.AbstractValue.{AbstractValue}
use Rattle.guard_model.specs.TypeView.{shared_type_view, type_view}
use Rattle.guard_model.specs.declared.ty.Ty.{Ty}
use Rattle.guard_syntax.specs.declared.tree.ValueTree.{ValueTree}
use Rattle.guard_syntax.specs.Views.{value_view}
use Rattle.guard_values.specs.Views.{known_value_view}
use Rattle.guard_constraints.specs.Views.{visible_in}
use Rattle.guard_schema.specs.Faults.{named}
use Rattle.guard_schema.specs.Outcomes.{Is}
use Rattle.guard_schema.specs.Readings.{ReadsMember}
use Rattle.guard_schema.proofs.Turns.Outcomes.{first_refuses}
use Rattle.guard_schema.proofs.definitions.assigned.Goals as goal

pub returns-in_err-found-in-Some-clause-read : goal.returns-in_err-found-in-Some-clause-read
returns-in_err-found-in-Some-clause-read c =
    let p = err_from_is_err_and c.from_residual.result c.from_residual.ensures.1 in
    rw (p.1, p.2, c.in-Some.is) (first_refuses
    (ReadsMember (visible_in c.args.scope) (shared_type_view c.args.ty.now) (value_view c.in-Some.tree.value))
    (λ (v : AbstractValue). Is (Some v)) (named c.in_err-found-in-Some.field-0.0)
    (rw c.deref.ensures at (rw c.deref-in-Some.ensures at c.in_err-found-in-Some.ensures.read)))

pub returns-in_ok-found-in-Some-clause-read : goal.returns-in_ok-found-in-Some-clause-read
returns-in_ok-found-in-Some-clause-read c =
    let v = known_value_view c.in_ok-found-in-Some.found in
    rw c.in-Some.is (inl (
      v,
      subst (λ (t : Ty). ReadsMember (visible_in c.args.scope) (type_view t) (value_view c.in-Some.tree.value) (Ok v))
          c.deref.ensures (subst (λ (tree : ValueTree). ReadsMember (visible_in c.args.scope)
          (type_view c.deref.result.now) (value_view tree) (Ok v)) c.deref-in-Some.ensures
          c.in_ok-found-in-Some.ensures.read),
      refl,
    ))
