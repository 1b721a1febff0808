use Rattle.std.proofs.Common.{false}
use Rattle.std.specs.Prelude.{string_bytes}
use Rattle.guard_files.proofs.ExplainedFaults.{silent}
use Rattle.guard_messages.specs.Questions.{question_view}
use Rattle.guard_messages.proofs.holding.show_held.Goals as goal

pub returns-clause-none : goal.returns-clause-none
returns-clause-none g c =
    silent (g.F.Files.told c.args.files.now) (question_view c.args.question.now).policy (string_bytes c.plain.result.note) false c.plain.result.fault
    c.plain.ensures.fault c.plain.ensures.silent
