use Rattle.guard_frames.proofs.Own.OnePairing.{one_own}
use Rattle.guard_frames.proofs.laws.law_one_own.Goals as goal

pub returns : goal.returns
returns c = one_own
