use Rattle.guard_syntax.specs.inside.Cursors.{ahead}
use Rattle.guard_syntax.specs.inside.ReadModule.{goes_on_assigning, read_assignment}
use Rattle.guard_syntax.specs.ModuleViews.{assignment_view}
use Rattle.guard_syntax.proofs.Loops.{EachSoFar}
use Rattle.guard_syntax.proofs.module.assignments.Given as goal

abbrev pub invariant-loop : goal.invariant-loop
invariant-loop l = EachSoFar assignment_view goes_on_assigning read_assignment (ahead l.at) l.all.items l.counter (ahead l.rest)
