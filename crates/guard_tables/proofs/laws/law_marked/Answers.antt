use Rattle.guard_tables.proofs.Adding.{adds_type}
use Rattle.guard_tables.proofs.laws.law_marked.Goals as goal

pub returns : goal.returns
returns c = adds_type
