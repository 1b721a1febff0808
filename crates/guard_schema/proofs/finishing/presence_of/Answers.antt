use Rattle.std.proofs.Common.{Ok, inl, refl, subst}
use Rattle.std.proofs.lemmas.Result.{err_from_is_err_and}
use Rattle.guard_model.specs.AbstractType as type
use Rattle.guard_model.specs.AbstractValue.{AbstractValue}
use Rattle.guard_model.specs.TypeView.{type_view}
use Rattle.guard_syntax.specs.declared.tree.ValueTree.{ValueTree}
use Rattle.guard_syntax.specs.Views.{value_view}
use Rattle.guard_values.specs.Views.{known_value_view}
use Rattle.guard_constraints.specs.Views.{visible_in}
use Rattle.guard_schema.specs.Faults.{named}
use Rattle.guard_schema.specs.Outcomes.{Is}
use Rattle.guard_schema.specs.Readings.{ReadsMember}
use Rattle.guard_schema.proofs.Turns.Outcomes.{first_refuses}
use Rattle.guard_schema.proofs.finishing.presence_of.Goals as goal

pub returns-in_err-found-in-Default : goal.returns-in_err-found-in-Default
returns-in_err-found-in-Default c =
    let p = err_from_is_err_and c.from_residual.result c.from_residual.ensures.1 in
    rw (p.1, p.2, c.in-Default.is) (first_refuses
    (ReadsMember (visible_in c.args.scope) (type_view c.args.ty.now) (value_view c.in-Default.tree.value))
    (λ (v : AbstractValue). Is (type.default v)) (named c.in_err-found-in-Default.field-0.0)
    (rw c.deref.ensures at c.in_err-found-in-Default.ensures.read))

pub returns-in_ok-found-in-Default : goal.returns-in_ok-found-in-Default
returns-in_ok-found-in-Default c =
    let v = known_value_view c.in_ok-found-in-Default.found in
    rw c.in-Default.is (inl (
      v,
      subst (λ (tree : ValueTree). ReadsMember (visible_in c.args.scope) (type_view c.args.ty.now)
          (value_view tree) (Ok v)) c.deref.ensures c.in_ok-found-in-Default.ensures.read,
      refl,
    ))
