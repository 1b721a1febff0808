use Rattle.std.proofs.lemmas.Result.{err_from_is_err_and}
use Rattle.guard_syntax.specs.ModuleViews.{module_view}
use Rattle.guard_schema.proofs.Modules.Lexed.{lex_refused}
use Rattle.guard_schema.proofs.Modules.Names.{named_text}
use Rattle.guard_schema.proofs.texts.module.Goals as goal

pub returns-in_err-tokens-clause-read : goal.returns-in_err-tokens-clause-read
returns-in_err-tokens-clause-read c =
    let p = err_from_is_err_and c.from_residual.result c.from_residual.ensures.1 in
    rw p.1 (lex_refused c.args.place c.args.text.now c.in_err-tokens.field-0.0 p.0 p.2 c.in_err-tokens.ensures.fault)

pub returns-clause-named : goal.returns-clause-named
returns-clause-named c = named_text c.args.text.now c.in_ok-tokens.tokens.items
    (module_view c.in_ok-parse.field-0) c.in_ok-tokens.ensures.spans
    (rw c.deref-2.ensures.value at c.in_ok-parse.ensures.found)
