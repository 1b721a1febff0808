use Rattle.std.proofs.Common.{Ok, Err}
use Rattle.std.proofs.lemmas.Result.{err_from_is_err_and}
use Rattle.guard_model.specs.TypeView.{type_view}
use Rattle.guard_constraints.specs.Views.{visible_in}
use Rattle.guard_schema.specs.Faults.{named}
use Rattle.guard_schema.proofs.Filled.Steps.{before_refused, then_after, part_there}
use Rattle.guard_schema.proofs.constraints.with_written.Goals as goal

pub constrained_before-requires-clause-part : goal.constrained_before-requires-clause-part
constrained_before-requires-clause-part c =
    part_there (visible_in c.args.scope) c.args.tree.now (type_view c.args.ty) c.requires.part

pub returns-in_err-before-clause-constrained : goal.returns-in_err-before-clause-constrained
returns-in_err-before-clause-constrained c =
    let p = err_from_is_err_and c.from_residual.result c.from_residual.ensures.1 in
    rw (p.1, p.2) (before_refused (visible_in c.args.scope) c.args.tree.now (type_view c.args.ty)
    (named c.in_err-before.field-0.0) c.in_err-before.ensures.constrained)

pub returns-clause-constrained : goal.returns-clause-constrained
returns-clause-constrained c = then_after (visible_in c.args.scope) c.args.tree.now (type_view c.args.ty)
    (type_view c.in_ok-before.before) c.in_ok-before.ensures.constrained (Ok c.in_ok-ty.ty)
    (rw c.deref.ensures.value at c.in_ok-ty.ensures.added)

pub returns-in_err-ty-clause-constrained : goal.returns-in_err-ty-clause-constrained
returns-in_err-ty-clause-constrained c =
    let p = err_from_is_err_and c.from_residual-in_err-ty.result c.from_residual-in_err-ty.ensures.1 in
    rw (p.1, p.2) (then_after (visible_in c.args.scope) c.args.tree.now (type_view c.args.ty)
    (type_view c.in_ok-before.before) c.in_ok-before.ensures.constrained (Err c.in_err-ty.field-0.0)
    (rw c.deref.ensures.value at c.in_err-ty.ensures.added))
