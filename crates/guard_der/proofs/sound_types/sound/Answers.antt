use Rattle.guard_model.specs.TypeView.{type_view}
use Rattle.guard_der.proofs.Functions.SoundTypes.{told_distinct, told_accepted}
use Rattle.guard_der.proofs.sound_types.sound.Goals as goal

pub returns-clause-distinct : goal.returns-clause-distinct
returns-clause-distinct c = told_distinct (type_view c.args.ty.now) c.is_sound.result c.is_sound.ensures

pub returns-clause-accepted : goal.returns-clause-accepted
returns-clause-accepted c = told_accepted (type_view c.args.ty.now) c.is_sound.result c.is_sound.ensures
