use Rattle.std.proofs.Common.{map, string_bytes}
use Rattle.std.proofs.lemmas.Result.{err_from_is_err_and}
use Rattle.guard_files.proofs.Refusals.{before_modules, lists_none, modules_unread}
use Rattle.guard_files.proofs.texts.beside_policy.Goals as goal

pub returns-in_err-listed-clause-missing : goal.returns-in_err-listed-clause-missing
returns-in_err-listed-clause-missing g c told has next =
    let e = err_from_is_err_and c.from_residual.result c.from_residual.ensures.1 in
    rw e.1 (lists_none told c.args.path.now c.args.policy.now has c.in_err-listed.field-0.0 e.0 e.2 c.in_err-listed.ensures.refused)

pub returns-in_err-listed-clause-before : goal.returns-in_err-listed-clause-before
returns-in_err-listed-clause-before g c =
    let e = err_from_is_err_and c.from_residual.result c.from_residual.ensures.1 in
    rw e.1 (before_modules c.in_err-listed.field-0.0 e.0 e.2)

pub returns-in_err-modules-clause-missing : goal.returns-in_err-modules-clause-missing
returns-in_err-modules-clause-missing g c told has next =
    let e = err_from_is_err_and c.from_residual-in_err-modules.result c.from_residual-in_err-modules.ensures.1 in
    rw (e.1, e.2)
    (modules_unread told c.args.path.now c.args.policy.now has (map string_bytes c.in_ok-listed.listed.items) c.in_ok-listed.ensures.files c.in_err-modules.field-0.0
    (rw (next, c.deref.ensures.value) at c.in_err-modules.ensures.missing))
