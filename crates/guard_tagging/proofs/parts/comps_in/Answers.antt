use Rattle.guard_tagging.proofs.Lists.CodeParts.{taken_sequence, taken_set, taken_choice}
use Rattle.guard_tagging.proofs.parts.comps_in.Goals as goal

pub returns-in-Sequence : goal.returns-in-Sequence
returns-in-Sequence c = taken_sequence _ c.in-Sequence.comps c.in-Sequence.is

pub returns-in-Set : goal.returns-in-Set
returns-in-Set c = taken_set _ c.in-Set.comps c.in-Set.is

pub returns-in-Choice : goal.returns-in-Choice
returns-in-Choice c = taken_choice _ c.in-Choice.comps c.in-Choice.is
