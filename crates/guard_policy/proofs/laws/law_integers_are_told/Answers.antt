use Rattle.guard_policy.proofs.NothingShared.{integers_are_told}
use Rattle.guard_policy.proofs.laws.law_integers_are_told.Goals as goal

pub returns : goal.returns
returns c = integers_are_told
