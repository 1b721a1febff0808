use Rattle.guard_report.proofs.Notes.{value_alone}
use Rattle.guard_report.proofs.laws.law_notes_alone.Goals as goal

pub returns : goal.returns
returns c = value_alone
