use Rattle.guard_constraints.proofs.Denoted.OneConstraint.{one_constraint}
use Rattle.guard_constraints.proofs.Denoted.WrittenValues.{values_said}
use Rattle.guard_constraints.proofs.laws.law_one_constraint.Goals as goal

pub returns : goal.returns
returns c = λ names t tree x y h k. one_constraint names t tree x y (values_said names.values) h k
