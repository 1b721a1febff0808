use Rattle.std.proofs.lemmas.Result.{err_from_is_err_and}
use Rattle.guard_files.proofs.WholeTexts.{unreadable}
use Rattle.guard_files.proofs.texts.read.Goals as goal

pub returns-clause-text : goal.returns-clause-text
returns-clause-text g c = c.whole.ensures.all (g.F.Files.told c.args.files.now) c.in_ok-text.ensures.text

pub returns-clause-missing : goal.returns-clause-missing
returns-clause-missing g c = c.whole.ensures.none (g.F.Files.told c.args.files.now) c.in_ok-text.ensures.text

pub returns-in_err-text-clause-missing : goal.returns-in_err-text-clause-missing
returns-in_err-text-clause-missing g c =
    let e = err_from_is_err_and c.from_residual.result c.from_residual.ensures.1 in
    rw (e.1, e.2) (unreadable (g.F.Files.told c.args.files.now) c.args.path.now c.in_err-text.field-0.0 c.in_err-text.ensures.missing)
