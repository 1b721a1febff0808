use Rattle.guard_eval.proofs.Law.{members_violate_nothing}
use Rattle.guard_eval.proofs.laws.law_members_violate_nothing.Goals as goal

pub returns : goal.returns
returns c = members_violate_nothing
