use Rattle.guard_constraints.proofs.Denoted.OneConstraint.{one_fault}
use Rattle.guard_constraints.proofs.laws.law_one_fault.Goals as goal

pub returns : goal.returns
returns c = λ names t tree f g h k. one_fault names t tree f g h k
