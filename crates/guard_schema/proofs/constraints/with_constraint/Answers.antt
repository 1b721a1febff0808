use Rattle.std.proofs.Common.{sym, subst, IsTrue}
use Rattle.guard_model.specs.TypeView.{type_view, constraint_view}
use Rattle.guard_der.specs.Sound.{is_sound}
use Rattle.guard_constraints.specs.Noted.{AreAgreed}
use Rattle.guard_schema.proofs.Filled.OneConstraint.{sound_with, agreed_with}
use Rattle.guard_schema.proofs.constraints.with_constraint.Goals as goal

pub returns-clause-sound : goal.returns-clause-sound
returns-clause-sound c =
    subst (λ t. IsTrue (is_sound t)) (sym c.in_ok-with.ensures)
    (sound_with (type_view c.args.ty) (constraint_view c.in_ok-cons.cons) c.requires.sound
    c.in_ok-cons.ensures.proper)

pub returns-clause-agreed : goal.returns-clause-agreed
returns-clause-agreed c =
    let known = c.args.scope.known.now in
    let places = c.read_constraint.new.noted.agreed in
    subst (λ t. AreAgreed known t places) (sym c.in_ok-with.ensures)
    (agreed_with known (type_view c.args.ty) (constraint_view c.in_ok-cons.cons) places c.in_ok-cons.ensures.agreed)
