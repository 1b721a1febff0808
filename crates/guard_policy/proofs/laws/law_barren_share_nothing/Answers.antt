use Rattle.guard_policy.proofs.NothingShared.{barren_share_nothing}
use Rattle.guard_policy.proofs.laws.law_barren_share_nothing.Goals as goal

pub returns : goal.returns
returns c = barren_share_nothing
