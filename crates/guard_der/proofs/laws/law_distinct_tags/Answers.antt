use Rattle.guard_der.proofs.Functions.SoundTypes.{tags_distinct}
use Rattle.guard_der.proofs.laws.law_distinct_tags.Goals as goal

pub returns : goal.returns
returns c = tags_distinct
