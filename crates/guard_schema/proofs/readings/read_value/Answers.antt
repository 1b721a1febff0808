use Rattle.std.proofs.lemmas.Result.{err_from_is_err_and}
use Rattle.guard_model.specs.TypeView.{type_view}
use Rattle.guard_syntax.specs.Views as values
use Rattle.guard_constraints.specs.Views.{visible_in}
use Rattle.guard_schema.proofs.Built.Readings.{value_refused}
use Rattle.guard_schema.proofs.readings.read_value.Goals as goal

pub shared_value-requires-clause-fitting : goal.shared_value-requires-clause-fitting
shared_value-requires-clause-fitting c = c.requires.known.1

pub returns-in_err-shared_value-clause-read : goal.returns-in_err-shared_value-clause-read
returns-in_err-shared_value-clause-read c =
    let p = err_from_is_err_and c.from_residual.result c.from_residual.ensures.1 in
    rw p.1 (value_refused (visible_in c.args.scope) (type_view c.args.ty.now)
    (values.value_view c.args.tree.now) c.in_err-shared_value.field-0.0 p.0 p.2 c.in_err-shared_value.ensures.first
    c.in_err-shared_value.ensures.none)

pub returns-clause-read : goal.returns-clause-read
returns-clause-read c = c.in_ok-shared_value.ensures.denoted
