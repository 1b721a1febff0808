use Rattle.guard_constraints.proofs.CodeSteps.NotedBounds.{grows_by}
use Rattle.guard_constraints.proofs.noted.larger.Goals as goal

pub returns-in-Some-Some-clause-first : goal.returns-in-Some-Some-clause-first
returns-in-Some-Some-clause-first c =
    rw (c.in-Some-Some.is-0, c.max.ensures) (grows_by c.in-Some-Some.first c.in-Some-Some.second).0

pub returns-in-Some-Some-clause-second : goal.returns-in-Some-Some-clause-second
returns-in-Some-Some-clause-second c =
    rw (c.in-Some-Some.is-1, c.max.ensures) (grows_by c.in-Some-Some.first c.in-Some-Some.second).1
