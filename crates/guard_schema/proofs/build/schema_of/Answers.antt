use Rattle.std.proofs.Common.{List, Ok, map, subst}
use Rattle.std.proofs.lemmas.Result.{err_from_is_err_and}
use Rattle.guard_syntax.specs.ModuleViews.{module_view}
use Rattle.guard_syntax.specs.declared.tree.Module.{Module}
use Rattle.guard_schema.specs.Accepts.{KnowsModules}
use Rattle.guard_schema.specs.Faults.{named}
use Rattle.guard_schema.specs.Views.{known_of, schema_view}
use Rattle.guard_schema.proofs.ByNames.Answers.{modules_refused, known_refused, whole}
use Rattle.guard_schema.proofs.build.schema_of.Goals as goal

pub returns-in_err-modules : goal.returns-in_err-modules
returns-in_err-modules c =
    let p = err_from_is_err_and c.from_residual.result c.from_residual.ensures.1 in
    rw (p.1, p.2) (modules_refused (map (λ t. t.now) c.args.texts.now)
    (named c.in_err-modules.field-0.0) c.in_err-modules.ensures.read)

pub of-requires : goal.of-requires
of-requires c = rw c.deref.ensures.value c.in_ok-modules.ensures.kept

pub returns-in_err-built : goal.returns-in_err-built
returns-in_err-built c =
    let p = err_from_is_err_and c.from_residual-in_err-built.result c.from_residual-in_err-built.ensures.1 in
    rw (p.1, p.2) (known_refused (map (λ t. t.now) c.args.texts.now)
    (map module_view c.in_ok-modules.modules.items) c.in_ok-modules.ensures.read
    (named c.in_err-built.field-0.0) (rw c.deref.ensures.value at c.in_err-built.ensures.known))

pub returns : goal.returns
returns c =
    whole (map (λ t. t.now) c.args.texts.now) (map module_view c.in_ok-modules.modules.items)
    c.in_ok-modules.ensures.read (known_of c.in_ok-built.built) (schema_view c.in_ok-built.built.schema)
    (subst (λ (ms : List Module). KnowsModules (map module_view ms) (Ok (known_of c.in_ok-built.built)))
    c.deref.ensures.value c.in_ok-built.ensures.known) c.in_ok-built.ensures.schema
