use Rattle.guard_syntax.specs.inside.Cursors.{ahead}
use Rattle.guard_syntax.specs.inside.ReadTokens.{read_perhaps_signed}
use Rattle.guard_syntax.specs.inside.ReadTypes.{read_named}
use Rattle.guard_syntax.specs.TypeViews.{named_view}
use Rattle.guard_syntax.proofs.Loops.{PartedSoFar}
use Rattle.guard_syntax.proofs.named_numbers.some_named.Given as goal

abbrev pub invariant-loop : goal.invariant-loop
invariant-loop l =
    PartedSoFar named_view (read_named (read_perhaps_signed l.signed)) (ahead l.at) l.all.items l.counter (ahead l.rest)
