use Rattle.guard_tagcheck.proofs.NoClash.{none_where_distinct}
use Rattle.guard_tagcheck.proofs.laws.law_distinct.Goals as goal

pub returns : goal.returns
returns c = none_where_distinct
