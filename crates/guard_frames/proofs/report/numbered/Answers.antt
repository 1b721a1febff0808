use Rattle.std.proofs.Common.{◌∙◌}
use Rattle.guard_frames.proofs.Asking.{ends_joined, ends_same}
use Rattle.guard_frames.proofs.report.numbered.Goals as goal

pub returns-clause-ends : goal.returns-clause-ends
returns-clause-ends c =
    ends_same _ _ (c.as_slice.ensures.value ∙ c.append-2.ensures) (ends_joined _ c.args.octets.now c.requires.ends)
