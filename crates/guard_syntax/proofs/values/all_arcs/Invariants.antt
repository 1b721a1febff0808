use Rattle.guard_syntax.specs.inside.Cursors.{ahead}
use Rattle.guard_syntax.specs.inside.ReadTokens.{read_arc}
use Rattle.guard_syntax.specs.inside.ReadValues.{does_not_close}
use Rattle.guard_syntax.specs.Views.{arc_view}
use Rattle.guard_syntax.proofs.Loops.{EachSoFar}
use Rattle.guard_syntax.proofs.values.all_arcs.Given as goal

abbrev pub invariant-loop : goal.invariant-loop
invariant-loop l = EachSoFar arc_view does_not_close read_arc (ahead l.at) l.all.items l.counter (ahead l.rest)
