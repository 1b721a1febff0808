use Rattle.std.proofs.Common.{◌≡◌, take, map}
use Rattle.guard_model.specs.TypeView.{constraint_view}
use Rattle.guard_model.proofs.copying.copy_of_constraints.Given as goal

abbrev pub invariant-loop-constraint : goal.invariant-loop-constraint
invariant-loop-constraint l = map constraint_view l.copy.items ≡ map constraint_view (take l.constraint-index l.constraints)
