use Rattle.std.proofs.Common.{map, rules}
use Rattle.std.proofs.lemmas.Result.{err_from_is_err_and}
use Rattle.guard_syntax.specs.declared.tree.BaseTree.{the_lemmas}
use Rattle.guard_syntax.specs.Trees.{components_of, alternatives_of}
use Rattle.guard_syntax.specs.TypeViews as written
use Rattle.guard_tagging.specs.Named.{named}
use Rattle.guard_tagging.specs.inside.PartViews.{parts_view}
use Rattle.guard_tagging.specs.inside.ReadTypes.{read_list, read_choice}
use Rattle.guard_tagging.specs.ScopeView.{scope_view}
use Rattle.guard_tagging.proofs.Lists.OneByOne.{component_stops, next_component, no_component, component_known, alternative_stops, next_alternative, no_alternative, alternative_known}
use Rattle.guard_tagging.proofs.walk.+walk.Goals as goal

pub components-entry-requires : goal.components-entry-requires
components-entry-requires t c = (
  search (rules, the_lemmas),
  component_known (scope_view c.args.scope.now) c.args.trees.now c.loop-tree.tree-index c.requires.known c.tree-item.result c.loop-tree-test.true c.tree-item.is,
)

pub components-returns-in_err-parts-2 : goal.components-returns-in_err-parts-2
components-returns-in_err-parts-2 t c =
    let p = err_from_is_err_and c.from_residual-in_err-parts-2.result c.from_residual-in_err-parts-2.ensures.1 in
    rw (p.1, p.2) (component_stops (scope_view c.args.scope.now) c.args.collection c.is_automatic_list-automatic.result
    (parts_view c.loop-tree.parts.value) c.args.trees.now c.loop-tree.tree-index
    (read_list (scope_view c.args.scope.now) c.args.collection c.args.before
    (components_of (map written.component_view c.args.trees.now))) c.loop-tree.invariant c.tree-item.result c.loop-tree-test.true c.tree-item.is (named c.in_err-parts-2.field-0.0) c.in_err-parts-2.ensures)

pub components-loop-tree-preserved : goal.components-loop-tree-preserved
components-loop-tree-preserved t c =
    next_component (scope_view c.args.scope.now) c.args.collection c.is_automatic_list-automatic.result
    (parts_view c.loop-tree.parts.value) c.args.trees.now c.loop-tree.tree-index
    (read_list (scope_view c.args.scope.now) c.args.collection c.args.before
    (components_of (map written.component_view c.args.trees.now))) c.loop-tree.invariant c.tree-item.result c.loop-tree-test.true c.tree-item.is _ c.in_ok-parts-2.ensures

pub components-returns : goal.components-returns
components-returns t c =
    no_component (scope_view c.args.scope.now) c.args.collection c.is_automatic_list-automatic.result
    (parts_view c.loop-tree.parts.value) c.args.trees.now c.loop-tree.tree-index
    (read_list (scope_view c.args.scope.now) c.args.collection c.args.before
    (components_of (map written.component_view c.args.trees.now))) c.loop-tree.invariant c.loop-tree-test.false

pub alternatives-alternative-requires : goal.alternatives-alternative-requires
alternatives-alternative-requires t c = (
  search (rules, the_lemmas),
  alternative_known (scope_view c.args.scope.now) c.args.trees.now c.loop-tree.tree-index c.requires.known c.tree-item.result c.loop-tree-test.true c.tree-item.is,
)

pub alternatives-returns-in_err-parts-2 : goal.alternatives-returns-in_err-parts-2
alternatives-returns-in_err-parts-2 t c =
    let p = err_from_is_err_and c.from_residual-in_err-parts-2.result c.from_residual-in_err-parts-2.ensures.1 in
    rw (p.1, p.2) (alternative_stops (scope_view c.args.scope.now) c.is_automatic_choice-automatic.result
    (parts_view c.loop-tree.parts.value) c.args.trees.now c.loop-tree.tree-index
    (read_choice (scope_view c.args.scope.now) c.args.before
    (alternatives_of (map written.alternative_view c.args.trees.now))) c.loop-tree.invariant c.tree-item.result c.loop-tree-test.true c.tree-item.is (named c.in_err-parts-2.field-0.0) c.in_err-parts-2.ensures)

pub alternatives-loop-tree-preserved : goal.alternatives-loop-tree-preserved
alternatives-loop-tree-preserved t c =
    next_alternative (scope_view c.args.scope.now) c.is_automatic_choice-automatic.result
    (parts_view c.loop-tree.parts.value) c.args.trees.now c.loop-tree.tree-index
    (read_choice (scope_view c.args.scope.now) c.args.before
    (alternatives_of (map written.alternative_view c.args.trees.now))) c.loop-tree.invariant c.tree-item.result c.loop-tree-test.true c.tree-item.is _ c.in_ok-parts-2.ensures

pub alternatives-returns : goal.alternatives-returns
alternatives-returns t c =
    no_alternative (scope_view c.args.scope.now) c.is_automatic_choice-automatic.result
    (parts_view c.loop-tree.parts.value) c.args.trees.now c.loop-tree.tree-index
    (read_choice (scope_view c.args.scope.now) c.args.before
    (alternatives_of (map written.alternative_view c.args.trees.now))) c.loop-tree.invariant c.loop-tree-test.false
