use Rattle.std.proofs.Common.{sym}
use Rattle.guard_model.specs.TypeView.{type_view}
use Rattle.guard_constraints.proofs.CodeSteps.TypeParts.{no_element, an_element, sound_element}
use Rattle.guard_constraints.proofs.kinds.element_type.Goals as goal

pub returns-in-Some-clause-sound : goal.returns-in-Some-clause-sound
returns-in-Some-clause-sound c = sound_element c.args.ty.now (type_view c.in-Some.element.now) c.requires (sym c.in-Some.ensures)

pub returns-in-Some-clause-given : goal.returns-in-Some-clause-given
returns-in-Some-clause-given c = an_element c.args.ty.now c.args.site (type_view c.in-Some.element.now) (sym c.in-Some.ensures)

pub returns-in-None-clause-given : goal.returns-in-None-clause-given
returns-in-None-clause-given c = no_element c.args.ty.now c.args.site (sym c.in-None.ensures)
