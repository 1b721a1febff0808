use Rattle.std.specs.Prelude.{Some, None}
use Rattle.guard_authors.proofs.TriedCases.{next_fault}
use Rattle.guard_authors.proofs.cases.list_fault.Goals as goal

pub returns-in-Some : goal.returns-in-Some
returns-in-Some c =
    next_fault c.args.items.now c.loop-place.place c.index-items-place.result (Some _) _ c.loop-place-test.true c.index-items-place.is
    (rw c.in-Some.is at c.in_ok-fault.ensures) c.loop-place.invariant

pub loop-place-preserved : goal.loop-place-preserved
loop-place-preserved c =
    next_fault c.args.items.now c.loop-place.place c.index-items-place.result None _ c.loop-place-test.true c.index-items-place.is
    (rw c.in_default.is at c.in_ok-fault.ensures) c.loop-place.invariant
