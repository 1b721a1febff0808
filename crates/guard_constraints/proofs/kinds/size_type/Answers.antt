use Rattle.std.proofs.Common.{IsTrue, Ok, ap, sym, ◌∙◌, subst}
use Rattle.guard_model.specs.AbstractType.{AbstractType}
use Rattle.guard_der.specs.Sound.{is_sound}
use Rattle.guard_constraints.proofs.CodeSteps.TypeParts.{no_size, some_size}
use Rattle.guard_constraints.proofs.Denoted.SoundParts.{size_sound}
use Rattle.guard_constraints.proofs.kinds.size_type.Goals as goal

pub returns-then-not-has_size-clause-given : goal.returns-then-not-has_size-clause-given
returns-then-not-has_size-clause-given c = no_size c.args.ty.now c.args.site (sym c.has_size.ensures ∙ c.if-not-has_size.true)

pub returns-clause-sound : goal.returns-clause-sound
returns-clause-sound c = subst (λ (t : AbstractType). IsTrue (is_sound t)) (sym c.in_ok-integer.ensures) size_sound

pub returns-clause-given : goal.returns-clause-given
returns-clause-given c = some_size c.args.ty.now c.args.site (sym c.has_size.ensures ∙ c.if-not-has_size.false) ∙ ap (λ (t : AbstractType). Ok t) (sym c.in_ok-integer.ensures)
