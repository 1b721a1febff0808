use Rattle.std.proofs.Common.{drop, map}
use Rattle.guard_syntax.specs.Trees.{components_of, alternatives_of}
use Rattle.guard_syntax.specs.TypeViews as written
use Rattle.guard_constraints.specs.Views.{visible_in}
use Rattle.guard_schema.specs.inside.Ready.{AreNext, OthersAreNext}
use Rattle.guard_schema.specs.Views.{filling_view}
use Rattle.guard_schema.proofs.Filled.Loops.{ComponentsSoFar, AlternativesSoFar}
use Rattle.guard_schema.proofs.finishing.+finishing.Given as goal

abbrev pub invariant-fill-loop-tree : goal.invariant-fill-loop-tree
invariant-fill-loop-tree l = record {
  so_far : ComponentsSoFar (visible_in l.scope) l.trees (filling_view l.fn.filling) l.tree-index
      (filling_view l.so_far);
  next : AreNext (visible_in l.scope) (components_of (map written.component_view (drop l.tree-index l.trees)))
      (filling_view l.so_far).left;
}

abbrev pub invariant-fill_alternatives-loop-tree : goal.invariant-fill_alternatives-loop-tree
invariant-fill_alternatives-loop-tree l = record {
  so_far : AlternativesSoFar (visible_in l.scope) l.trees (filling_view l.fn.filling) l.tree-index
      (filling_view l.so_far);
  next : OthersAreNext (visible_in l.scope)
      (alternatives_of (map written.alternative_view (drop l.tree-index l.trees))) (filling_view l.so_far).left;
}
