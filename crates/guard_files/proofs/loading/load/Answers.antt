use Rattle.guard_files.proofs.loading.load.Goals as goal

pub returns-clause-there : goal.returns-clause-there
returns-clause-there g c = let n = c.in_ok-policy.ensures.there in (n.0, n.1, n.2, n.3)
