use Rattle.guard_schema.proofs.Sound.Ready.{are_sound}
use Rattle.guard_schema.proofs.laws.law_finished_sound.Goals as goal

pub returns : goal.returns
returns c = are_sound
