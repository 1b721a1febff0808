use Rattle.guard_frames.proofs.WholeHeadline.{guarded}
use Rattle.guard_frames.proofs.laws.law_guarded.Goals as goal

pub returns : goal.returns
returns c = guarded
