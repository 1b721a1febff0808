use Rattle.std.proofs.Common.{map, ap, ◌∙◌}
use Rattle.std.proofs.lemmas.Result.{err_from_is_err_and}
use Rattle.guard_names.specs.declared.names.Names.{Names}
use Rattle.guard_names.specs.NamesView.{modules_of}
use Rattle.guard_syntax.specs.ModuleViews.{module_view}
use Rattle.guard_schema.specs.Faults.{named}
use Rattle.guard_schema.proofs.ByNames.Answers.{names_refused, names_fault, progress_refused, known_whole, schema_known}
use Rattle.guard_schema.proofs.built_modules.BuiltModules.of.Goals as goal

pub returns-in_err-names-clause-known : goal.returns-in_err-names-clause-known
returns-in_err-names-clause-known c =
    let p = err_from_is_err_and c.from_residual.result c.from_residual.ensures.1 in
    let ms = map module_view c.args.modules.now in
    rw p.1 (names_refused ms (named p.0)
    (names_fault ms c.in_err-names.field-0.0 (named p.0) p.2 c.in_err-names.ensures.refused))

pub all_built-requires : goal.all_built-requires
all_built-requires c = record { spelled = rw c.in_ok-names.ensures.modules c.requires.spelled }

pub returns-in_err-progress-clause-known : goal.returns-in_err-progress-clause-known
returns-in_err-progress-clause-known c =
    let p = err_from_is_err_and c.from_residual-in_err-progress.result c.from_residual-in_err-progress.ensures.1 in
    rw (p.1, p.2) (progress_refused (map module_view c.args.modules.now) c.in_ok-names.names
    c.in_ok-names.ensures.modules c.in_ok-names.ensures.faultless
    (named c.in_err-progress.field-0.0) c.in_err-progress.ensures.built)

pub with_names-requires : goal.with_names-requires
with_names-requires c = record {
  modules = ap (λ (n : Names). modules_of n) c.in_ok-progress.ensures.names ∙ c.in_ok-names.ensures.modules;
  texts = c.requires.named;
  few = c.requires.few;
}

pub returns-clause-known : goal.returns-clause-known
returns-clause-known c =
    known_whole (map module_view c.args.modules.now) c.in_ok-names.names c.in_ok-names.ensures.modules
    c.in_ok-names.ensures.faultless c.in_ok-progress.progress c.in_ok-progress.ensures.built
    c.in_ok-schema.schema c.in_ok-schema.ensures.kept

pub returns-clause-schema : goal.returns-clause-schema
returns-clause-schema c =
    schema_known c.in_ok-progress.progress c.in_ok-names.names c.in_ok-progress.ensures.names
    c.in_ok-schema.schema c.in_ok-schema.ensures.kept c.in_ok-schema.ensures.named

pub returns-in_err-schema-clause-known : goal.returns-in_err-schema-clause-known
returns-in_err-schema-clause-known c =
    let p = err_from_is_err_and c.from_residual-in_err-schema.result c.from_residual-in_err-schema.ensures.1 in
    rw (p.1, p.2) tt
