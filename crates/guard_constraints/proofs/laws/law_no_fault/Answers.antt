use Rattle.guard_constraints.proofs.Denoted.OneConstraint.{no_fault}
use Rattle.guard_constraints.proofs.Denoted.WrittenValues.{values_said, values_agree}
use Rattle.guard_constraints.proofs.laws.law_no_fault.Goals as goal

pub returns : goal.returns
returns c = λ names t tree x f fit sound h k. no_fault names t tree x f (values_said names.values) (values_agree names.values fit) sound h k
