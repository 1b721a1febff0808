use Rattle.guard_syntax.specs.Parses.{value_sited}
use Rattle.guard_syntax.specs.Lexemes.{sites_of}
use Rattle.guard_syntax.specs.inside.ReadTokens.{placed_of}
use Rattle.guard_syntax.specs.inside.ReadModule.{read_value_alone}
use Rattle.guard_syntax.specs.Views.{value_view}
use Rattle.guard_syntax.proofs.SoundAndComplete.{is_value, has_value_sites, value_is_read, refused_only, answered_only}
use Rattle.guard_syntax.proofs.parser.parse_value.Goals as goal

pub returns-in-Ok-clause-found : goal.returns-in-Ok-clause-found
returns-in-Ok-clause-found c = is_value c.args.text.now c.args.tokens.now (value_view c.in-Ok.value) c.in-Ok.ensures

pub returns-in-Ok-clause-sites : goal.returns-in-Ok-clause-sites
returns-in-Ok-clause-sites c = has_value_sites c.args.text.now c.args.tokens.now (value_view c.in-Ok.value) c.in-Ok.ensures

pub returns-in-Ok-clause-only : goal.returns-in-Ok-clause-only
returns-in-Ok-clause-only c = λ v w. answered_only (read_value_alone (placed_of c.args.text.now c.args.tokens.now)) (value_view c.in-Ok.value) (value_sited v (sites_of c.args.tokens.now)) c.in-Ok.ensures (value_is_read c.args.text.now c.args.tokens.now v w)

pub returns-in-Err-clause-only : goal.returns-in-Err-clause-only
returns-in-Err-clause-only c = λ v w. refused_only c.in-Err.error c.fault.result (read_value_alone (placed_of c.args.text.now c.args.tokens.now)) (value_sited v (sites_of c.args.tokens.now)) c.in-Err.ensures (value_is_read c.args.text.now c.args.tokens.now v w) c.fault.ensures.memory
