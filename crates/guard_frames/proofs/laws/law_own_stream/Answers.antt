use Rattle.guard_frames.proofs.Own.Chains.{own_stream_gives}
use Rattle.guard_frames.proofs.laws.law_own_stream.Goals as goal

pub returns : goal.returns
returns c = own_stream_gives
