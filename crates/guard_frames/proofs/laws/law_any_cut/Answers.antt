use Rattle.guard_frames.proofs.Readings.{any_cut}
use Rattle.guard_frames.proofs.laws.law_any_cut.Goals as goal

pub returns : goal.returns
returns c = any_cut
