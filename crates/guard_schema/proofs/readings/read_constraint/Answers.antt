use Rattle.std.proofs.lemmas.Result.{err_from_is_err_and}
use Rattle.guard_model.specs.TypeView.{type_view}
use Rattle.guard_syntax.specs.SetViews as sets
use Rattle.guard_constraints.specs.Views.{visible_in}
use Rattle.guard_schema.proofs.Built.Readings.{constraint_refused}
use Rattle.guard_schema.proofs.readings.read_constraint.Goals as goal

pub constraint-requires-clause-fitting : goal.constraint-requires-clause-fitting
constraint-requires-clause-fitting c = c.requires.known.1

pub constraint-requires-clause-known : goal.constraint-requires-clause-known
constraint-requires-clause-known c = c.requires.known.0

pub returns-in_err-constraint-clause-read : goal.returns-in_err-constraint-clause-read
returns-in_err-constraint-clause-read c =
    let p = err_from_is_err_and c.from_residual.result c.from_residual.ensures.1 in
    rw p.1 (constraint_refused (visible_in c.args.scope) (type_view c.args.ty.now)
    (sets.constraint_view c.args.tree.now) c.in_err-constraint.field-0.0 p.0 p.2 c.in_err-constraint.ensures.first
    c.in_err-constraint.ensures.none)

pub returns-clause-read : goal.returns-clause-read
returns-clause-read c = c.in_ok-constraint.ensures.denoted
