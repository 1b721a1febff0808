use Rattle.std.proofs.lemmas.Result.{err_from_is_err_and}
use Rattle.guard_model.specs.TypeView.{type_view}
use Rattle.guard_values.specs.inside.Reading.{read_reference}
use Rattle.guard_values.specs.Views.{named, values_of}
use Rattle.guard_values.proofs.SingleValues.NamedBits.{kept_refused}
use Rattle.guard_values.proofs.names.reference.Goals as goal

pub returns-in_err-counted-clause-given : goal.returns-in_err-counted-clause-given
returns-in_err-counted-clause-given c =
    let p = err_from_is_err_and c.from_residual.result c.from_residual.ensures.1 in
    rw (p.1, p.2) (kept_refused (named c.in_err-counted.field-0.0) c.args.sorted (read_reference (values_of c.args.scope) (type_view c.args.ty.now) c.args.site c.args.name.now) c.in_err-counted.ensures.given)
