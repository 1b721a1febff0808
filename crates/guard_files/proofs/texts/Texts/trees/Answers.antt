use Rattle.std.proofs.Common.{inr, map, refl}
use Rattle.std.proofs.lemmas.Result.{err_from_is_err_and}
use Rattle.guard_files.proofs.LoadedTexts.{trees_refused}
use Rattle.guard_files.proofs.texts.Texts.trees.Goals as goal

pub returns-in_err-slices-clause-none : goal.returns-in_err-slices-clause-none
returns-in_err-slices-clause-none c =
    let e = err_from_is_err_and c.from_residual.result c.from_residual.ensures.1 in
    rw (e.1, e.2) (inr refl)

pub returns-in_err-read_modules-clause-none : goal.returns-in_err-read_modules-clause-none
returns-in_err-read_modules-clause-none c =
    let e = err_from_is_err_and c.from_residual-in_err-read_modules.result c.from_residual-in_err-read_modules.ensures.1 in
    rw (e.1, e.2)
    (trees_refused (map (λ text. text.items) c.args.self.now.modules.items) c.args.self.now.policy.items c.in_err-read_modules.field-0.0
    (rw (c.deref.ensures.value, c.in_ok-slices.ensures) at c.in_err-read_modules.ensures.read))

pub returns-clause-read : goal.returns-clause-read
returns-clause-read c = rw (c.deref.ensures.value, c.in_ok-slices.ensures) at c.in_ok-read_modules.ensures.read
