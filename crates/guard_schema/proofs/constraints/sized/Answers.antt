use Rattle.std.proofs.Common.{sym, ap, subst, ◌∙◌, IsTrue}
use Rattle.std.proofs.lemmas.Bool.{and_from}
use Rattle.guard_model.specs.AbstractType as type
use Rattle.guard_model.specs.AbstractType.{AbstractType, Constraint}
use Rattle.guard_model.specs.Kinds.{kind_of, type_of_size}
use Rattle.guard_model.specs.TypeView.{type_view, constraint_view}
use Rattle.guard_der.specs.ProperConstraints.{takes_size}
use Rattle.guard_der.specs.Sound.{is_sound, is_proper_constraint}
use Rattle.guard_constraints.specs.Noted.{with_constraint}
use Rattle.guard_schema.proofs.Filled.OneConstraint.{sound_with, bounded_with_size}
use Rattle.guard_values.specs.SingleValues.{is_bounded}
use Rattle.guard_schema.proofs.constraints.sized.Goals as goal

pub returns-clause-sound : goal.returns-clause-sound
returns-clause-sound c =
    let t = type_view c.args.ty in
    let inner = constraint_view c.in_ok-inner.inner in
    subst (λ (u : AbstractType). IsTrue (is_sound u))
    (sym (c.in_ok-with.ensures ∙ ap (λ (x : Constraint). with_constraint t x) c.in_ok-cons.ensures))
    (sound_with t (type.at c.args.before.now.site (type.size inner)) c.requires.sound
    (and_from (takes_size (kind_of t)) (is_proper_constraint inner type_of_size) c.requires.sizes
    (rw c.in_ok-number.ensures at c.in_ok-inner.ensures.proper)))

pub returns-clause-bounded : goal.returns-clause-bounded
returns-clause-bounded c = λ bound h.
    let t = type_view c.args.ty in
    subst (λ (u : AbstractType). IsTrue (is_bounded bound u))
    (sym (c.in_ok-with.ensures ∙ ap (λ (x : Constraint). with_constraint t x) c.in_ok-cons.ensures))
    (bounded_with_size t c.args.before.now.site (constraint_view c.in_ok-inner.inner) bound h)
