use Rattle.guard_streams.proofs.counting.open.Goals as goal

pub returns-then-verbose : goal.returns-then-verbose
returns-then-verbose g c = rw c.if-verbose.true c.put_digest.ensures
