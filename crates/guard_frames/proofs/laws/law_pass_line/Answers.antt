use Rattle.std.proofs.Common.{append_assoc}
use Rattle.guard_frames.proofs.laws.law_pass_line.Goals as goal

pub returns : goal.returns
returns c p n b = simp append_assoc
