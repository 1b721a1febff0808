use Rattle.std.proofs.Common.{refl}
use Rattle.std.specs.Prelude.{codes}
use Rattle.guard_frames.proofs.report.line_of.Goals as goal

pub numbered-requires-clause-ends : goal.numbered-requires-clause-ends
numbered-requires-clause-ends c = record { front = codes " bad-header"; ends = refl }

pub numbered-requires-in-NoMemory-clause-ends : goal.numbered-requires-in-NoMemory-clause-ends
numbered-requires-in-NoMemory-clause-ends c = record { front = codes " no-memory"; ends = refl }

pub returns-in-BadHeader-clause-line : goal.returns-in-BadHeader-clause-line
returns-in-BadHeader-clause-line c = rw c.in-BadHeader.is c.numbered.ensures.line
