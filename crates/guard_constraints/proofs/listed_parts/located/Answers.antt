use Rattle.std.proofs.Common.{Some, None, refl}
use Rattle.guard_constraints.proofs.CodeSteps.TypeParts.{not_named, located_there, sound_there, few_places}
use Rattle.guard_constraints.proofs.listed_parts.located.Goals as goal

pub overflow_cast-result : goal.overflow_cast-result
overflow_cast-result c =
    few_places c.args.ty.now c.args.name.now c.components.result.now c.components.ensures (Some (c.in-Some.place, c.in-Some.inside)) c.in-Some.ensures.found c.requires c.in-Some.place c.in-Some.ensures.within

pub returns-in-Some-clause-sound : goal.returns-in-Some-clause-sound
returns-in-Some-clause-sound c =
    sound_there c.args.ty.now c.args.name.now c.components.result.now c.components.ensures (Some (c.in-Some.place, c.in-Some.inside)) c.in-Some.ensures.found c.in-Some.place c.in-Some.inside refl c.requires

pub returns-in-Some-clause-given : goal.returns-in-Some-clause-given
returns-in-Some-clause-given c =
    located_there c.args.ty.now c.args.name.now c.components.result.now c.components.ensures (Some (c.in-Some.place, c.in-Some.inside)) c.in-Some.ensures.found c.in-Some.place c.in-Some.inside refl c.args.site

pub returns-in-None-clause-given : goal.returns-in-None-clause-given
returns-in-None-clause-given c = not_named c.args.ty.now c.args.name.now c.components.result.now c.components.ensures None c.in-None.ensures.found c.args.site refl
