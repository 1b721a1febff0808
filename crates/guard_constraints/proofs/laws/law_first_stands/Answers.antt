use Rattle.guard_constraints.proofs.Denoted.StandingFaults.{first_stands}
use Rattle.guard_constraints.proofs.laws.law_first_stands.Goals as goal

pub returns : goal.returns
returns c = λ names t tree f h. first_stands names t tree f h
