use Rattle.guard_frames.proofs.HeaderLaws.{body_takes, body_again}
use Rattle.guard_frames.proofs.laws.law_one_header.Goals as goal

pub returns : goal.returns
returns c = record { read = body_takes; only = body_again }
