use Rattle.guard_syntax.specs.inside.Cursors.{ahead}
use Rattle.guard_syntax.specs.inside.ReadSets.{read_constraint, read_set}
use Rattle.guard_syntax.specs.inside.ReadTypes.{begins_constraint}
use Rattle.guard_syntax.specs.SetViews.{constraint_view}
use Rattle.guard_syntax.proofs.Loops.{EachSoFar}
use Rattle.guard_syntax.proofs.types.each_constraint.Given as goal

abbrev pub invariant-loop : goal.invariant-loop
invariant-loop l = EachSoFar constraint_view begins_constraint (read_constraint (read_set l.levels)) (ahead l.at) l.all.items l.counter (ahead l.rest)
