use Rattle.guard_frames.proofs.Readings.{one_split}
use Rattle.guard_frames.proofs.Splitting.{a_reading}
use Rattle.guard_frames.proofs.laws.law_one_reading.Goals as goal

pub returns : goal.returns
returns c = record { exists = a_reading; one = one_split }
