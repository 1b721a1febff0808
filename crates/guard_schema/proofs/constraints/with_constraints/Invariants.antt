use Rattle.std.specs.Prelude.{IsTrue}
use Rattle.guard_model.specs.TypeView.{type_view}
use Rattle.guard_der.specs.Sound.{is_sound}
use Rattle.guard_values.specs.SingleValues.{is_bounded}
use Rattle.guard_constraints.specs.Noted.{AreAgreed}
use Rattle.guard_constraints.specs.Views.{visible_in}
use Rattle.guard_schema.proofs.Filled.Loops.{ConstraintsSoFar}
use Rattle.guard_schema.proofs.constraints.with_constraints.Given as goal

abbrev pub invariant-loop-tree : goal.invariant-loop-tree
invariant-loop-tree l = record {
  so_far : ConstraintsSoFar (visible_in l.scope) l.trees (type_view l.fn.ty) l.tree-index (type_view l.constrained);
  sound : IsTrue (is_sound (type_view l.constrained));
  agreed : AreAgreed l.scope.known.now (type_view l.constrained) l.noted.agreed;
  bounded : IsTrue (is_bounded l.noted.bound (type_view l.constrained));
}
