use Rattle.guard_tables.proofs.LaidStanding.{stands_law}
use Rattle.guard_tables.proofs.laws.law_standing.Goals as goal

pub returns : goal.returns
returns c = stands_law
