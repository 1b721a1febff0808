use Rattle.std.proofs.lemmas.Result.{err_from_is_err_and}
use Rattle.guard_model.specs.TypeView.{type_view}
use Rattle.guard_schema.specs.Known.{values_in}
use Rattle.guard_schema.specs.Views.{known_of}
use Rattle.guard_authors.proofs.written.value_in.Goals as goal

pub returns-in_err-tokens-clause-none : goal.returns-in_err-tokens-clause-none
returns-in_err-tokens-clause-none c =
    let p = err_from_is_err_and c.from_residual.result c.from_residual.ensures.1 in
    let m = values_in (known_of c.args.modules.now) c.args.message.now.home.now in
    rw (p.1, p.2) (c.in_err-tokens.ensures.none m (type_view c.args.message.now.ty.now))

pub returns-in_err-tree-clause-none : goal.returns-in_err-tree-clause-none
returns-in_err-tree-clause-none c =
    let p = err_from_is_err_and c.from_residual-in_err-tree.result c.from_residual-in_err-tree.ensures.1 in
    let m = values_in (known_of c.args.modules.now) c.args.message.now.home.now in
    rw (p.1, p.2) (c.in_err-tree.ensures.none m (type_view c.args.message.now.ty.now))
