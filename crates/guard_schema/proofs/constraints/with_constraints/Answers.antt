use Rattle.std.proofs.lemmas.Result.{err_from_is_err_and}
use Rattle.guard_model.specs.TypeView.{type_view}
use Rattle.guard_constraints.specs.Views.{visible_in}
use Rattle.guard_schema.specs.Faults.{named}
use Rattle.guard_schema.proofs.Filled.Loops.{next_constraint, constraint_stops, no_constraint}
use Rattle.guard_schema.proofs.constraints.with_constraints.Goals as goal

pub loop-tree-init : goal.loop-tree-init
loop-tree-init c = record {
  so_far = λ answer h. h;
  sound = c.requires.sound;
  agreed = c.requires.agreed;
  bounded = c.requires.bounded;
}

pub with_constraint-requires : goal.with_constraint-requires
with_constraint-requires c = record {
  sound = c.loop-tree.invariant.sound;
  known = c.requires.known;
  agreed = c.loop-tree.invariant.agreed;
  bounded = c.loop-tree.invariant.bounded;
}

pub returns-in_err-constrained-clause-added : goal.returns-in_err-constrained-clause-added
returns-in_err-constrained-clause-added c =
    let p = err_from_is_err_and c.from_residual.result c.from_residual.ensures.1 in
    rw (p.1, p.2) (constraint_stops (visible_in c.args.scope) c.args.trees.now
    (type_view c.args.ty) c.loop-tree.tree-index
    (type_view c.loop-tree.constrained) c.tree-item.result c.loop-tree-test.true c.tree-item.is
    c.loop-tree.invariant.so_far (named c.in_err-constrained.field-0.0) c.in_err-constrained.ensures.added)

pub loop-tree-preserved : goal.loop-tree-preserved
loop-tree-preserved c = record {
  so_far = next_constraint (visible_in c.args.scope) c.args.trees.now (type_view c.args.ty) c.loop-tree.tree-index
      (type_view c.loop-tree.constrained) c.tree-item.result c.loop-tree-test.true c.tree-item.is
      c.loop-tree.invariant.so_far _ c.in_ok-constrained.ensures.added;
  sound = c.in_ok-constrained.ensures.sound;
  agreed = c.in_ok-constrained.ensures.agreed;
  bounded = c.in_ok-constrained.ensures.bounded;
}

pub returns-clause-added : goal.returns-clause-added
returns-clause-added c = no_constraint (visible_in c.args.scope) c.args.trees.now (type_view c.args.ty)
    c.loop-tree.tree-index
    (type_view c.loop-tree.constrained) c.loop-tree-test.false c.loop-tree.invariant.so_far
