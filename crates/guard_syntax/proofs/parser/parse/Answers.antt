use Rattle.guard_syntax.specs.Sites.{sited}
use Rattle.guard_syntax.specs.Lexemes.{sites_of}
use Rattle.guard_syntax.specs.inside.ReadTokens.{placed_of}
use Rattle.guard_syntax.specs.inside.ReadModule.{read_module}
use Rattle.guard_syntax.specs.ModuleViews.{module_view}
use Rattle.guard_syntax.proofs.SoundAndComplete.{is_written, has_sites, is_read, refused_only, answered_only}
use Rattle.guard_syntax.proofs.parser.parse.Goals as goal

pub returns-in-Ok-clause-found : goal.returns-in-Ok-clause-found
returns-in-Ok-clause-found c = is_written c.args.text.now c.args.tokens.now (module_view c.in-Ok.module) c.in-Ok.ensures

pub returns-in-Ok-clause-sites : goal.returns-in-Ok-clause-sites
returns-in-Ok-clause-sites c = has_sites c.args.text.now c.args.tokens.now (module_view c.in-Ok.module) c.in-Ok.ensures

pub returns-in-Ok-clause-only : goal.returns-in-Ok-clause-only
returns-in-Ok-clause-only c = λ m w. answered_only (read_module (placed_of c.args.text.now c.args.tokens.now)) (module_view c.in-Ok.module) (sited m (sites_of c.args.tokens.now)) c.in-Ok.ensures (is_read c.args.text.now c.args.tokens.now m w)

pub returns-in-Err-clause-only : goal.returns-in-Err-clause-only
returns-in-Err-clause-only c = λ m w. refused_only c.in-Err.error c.fault.result (read_module (placed_of c.args.text.now c.args.tokens.now)) (sited m (sites_of c.args.tokens.now)) c.in-Err.ensures (is_read c.args.text.now c.args.tokens.now m w) c.fault.ensures.memory
