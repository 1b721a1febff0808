use Rattle.std.proofs.Common.{option_map}
use Rattle.std.proofs.lemmas.Result.{err_from_is_err_and}
use Rattle.guard_model.specs.TypeView.{shared_type_view}
use Rattle.guard_syntax.specs.ModuleViews.{assignment_view}
use Rattle.guard_values.specs.Views.{shared_view}
use Rattle.guard_constraints.specs.Views.{visible_in}
use Rattle.guard_schema.specs.Faults.{named}
use Rattle.guard_schema.specs.Views.{known_view}
use Rattle.guard_schema.proofs.Built.OneDefinition.{limit_refuses, limit_kept}
use Rattle.guard_schema.proofs.definitions.valued.Goals as goal

pub returns-in_err-held-clause-built : goal.returns-in_err-held-clause-built
returns-in_err-held-clause-built c =
    let p = err_from_is_err_and c.from_residual-in_err-held.result c.from_residual-in_err-held.ensures.1 in
    let progress = c.args.progress.now in
    rw (p.1, p.2) (limit_refuses (known_view progress) (visible_in c.args.scope) (assignment_view c.args.assignment.now)
    (shared_type_view c.args.ty.now) (option_map shared_view c.in_ok-found.found.0)
    c.in_ok-found.ensures.read progress.held progress.holding
    (named c.in_err-held.field-0.0) (rw c.deref.ensures at c.in_err-held.ensures.limit))

pub returns-clause-built : goal.returns-clause-built
returns-clause-built c =
    let progress = c.args.progress.now in
    limit_kept (known_view progress) (visible_in c.args.scope) (assignment_view c.args.assignment.now)
    (shared_type_view c.args.ty.now) (option_map shared_view c.in_ok-found.found.0)
    c.in_ok-found.ensures.read progress.held progress.holding
    (rw c.deref.ensures at c.in_ok-held.ensures.limit)
