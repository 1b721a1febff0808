use Rattle.std.proofs.Common.{ap, ◌∙◌, false}
use Rattle.guard_json.specs.Taken.{lines_taken_by}
use Rattle.guard_json.proofs.Takings.{at_start}
use Rattle.guard_json.proofs.lines.JsonLines.new.Goals as goal

pub returns-clause-taken : goal.returns-clause-taken
returns-clause-taken g c =
    ap (λ b. lines_taken_by c.args.sink.ghost_name false 0 b (g.S.Sink.taken c.args.sink.now)) c.new.ensures.items
    ∙ at_start c.args.sink.ghost_name (g.S.Sink.taken c.args.sink.now)
