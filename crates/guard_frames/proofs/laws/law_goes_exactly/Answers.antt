use Rattle.guard_frames.proofs.GoesExactly.{goes_exactly}
use Rattle.guard_frames.proofs.laws.law_goes_exactly.Goals as goal

pub returns : goal.returns
returns g c = goes_exactly (g.D.Decide.decides c.args.policy.now)
