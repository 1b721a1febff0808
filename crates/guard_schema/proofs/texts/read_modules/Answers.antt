use Rattle.std.proofs.Common.{map}
use Rattle.std.proofs.lemmas.Result.{err_from_is_err_and}
use Rattle.guard_schema.specs.Faults.{named}
use Rattle.guard_schema.proofs.ByNames.Answers.{count_refused, modules_answered, modules_kept, few_texts}
use Rattle.guard_schema.proofs.texts.read_modules.Goals as goal

pub returns-in_err-check_count-clause-read : goal.returns-in_err-check_count-clause-read
returns-in_err-check_count-clause-read c =
    let p = err_from_is_err_and c.from_residual.result c.from_residual.ensures.1 in
    rw (p.1, p.2) (count_refused (map (λ t. t.now) c.args.texts.now)
    (named c.in_err-check_count.field-0.0) c.in_err-check_count.ensures)

pub modules-requires : goal.modules-requires
modules-requires c = few_texts c.args.texts.now c.in_ok-check_count.ensures

pub returns-clause-read : goal.returns-clause-read
returns-clause-read c = modules_answered (map (λ t. t.now) c.args.texts.now) c.in_ok-check_count.ensures
    c.modules.result c.modules.ensures.read

pub returns-clause-kept : goal.returns-clause-kept
returns-clause-kept c = modules_kept (map (λ t. t.now) c.args.texts.now) c.in_ok-check_count.ensures
    c.modules.result c.modules.ensures.read c.modules.ensures.spelled c.modules.ensures.named
