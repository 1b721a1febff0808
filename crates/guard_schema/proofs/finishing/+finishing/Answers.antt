use Rattle.std.proofs.Common.{Ok, inl, map, ap, rules}
use Rattle.std.proofs.lemmas.Result.{err_from_is_err_and}
use Rattle.guard_model.specs.TypeView.{type_view, kind_view, component_view}
use Rattle.guard_syntax.specs.declared.tree.BaseTree.{the_lemmas}
use Rattle.guard_syntax.specs.Trees.{components_of, alternatives_of}
use Rattle.guard_syntax.specs.TypeViews as written
use Rattle.guard_constraints.specs.Views.{visible_in}
use Rattle.guard_schema.specs.Faults.{named}
use Rattle.guard_schema.specs.inside.InTurn.{FinishesInTurn, FillsInTurn, OthersInTurn}
use Rattle.guard_schema.specs.Views.{filling_view}
use Rattle.guard_schema.proofs.Filled.Loops.{next_component, component_stops, no_component, next_alternative}
use Rattle.guard_schema.proofs.Filled.Loops.{alternative_stops, no_alternative}
use Rattle.guard_schema.proofs.Filled.Next.{component_next, components_after, alternative_is_next, alternatives_after}
use Rattle.guard_schema.proofs.Filled.Next.{all_next, all_others_next}
use Rattle.guard_schema.proofs.Filled.Steps.{parts_refused, parts_finished, kind_refused, kind_finished}
use Rattle.guard_schema.proofs.Filled.Steps.{list_finished, choice_finished, part_written, ready_there, component_ready}
use Rattle.guard_schema.proofs.Filled.Steps.{element_finished, taken_in, filling_refused, all_filled, one_refused}
use Rattle.guard_schema.proofs.Filled.Steps.{component_refused, component_finished}
use Rattle.guard_schema.proofs.Filled.Kinds.{kind_ready, list_ready, choice_ready, element_ready, choice_refused}
use Rattle.guard_schema.proofs.Filled.Kinds.{enough_there, meant_there}
use Rattle.guard_schema.proofs.Filled.Moves.{next_filled, next_ready, never_none}
use Rattle.guard_schema.proofs.Sound.InTurn.{part_sound}
use Rattle.guard_schema.proofs.finishing.+finishing.Goals as goal

-- ---- types

pub finished-with_parts-requires : goal.finished-with_parts-requires
finished-with_parts-requires t c = (
  search (rules, the_lemmas),
  (c.requires.known, ready_there (visible_in c.args.scope) c.args.tree.now (type_view c.args.bare) c.requires.ready),
)

pub finished-with_written-requires : goal.finished-with_written-requires
finished-with_written-requires t c = record {
  part = part_written (visible_in c.args.scope) c.args.tree.now (type_view c.in_ok-filled.filled)
      c.in_ok-filled.ensures.part;
  known = c.requires.known;
}

pub finished-returns-in_err-filled-clause-finished : goal.finished-returns-in_err-filled-clause-finished
finished-returns-in_err-filled-clause-finished t c =
    let p = err_from_is_err_and c.from_residual.result c.from_residual.ensures.1 in
    rw (p.1, p.2) (parts_refused (visible_in c.args.scope) c.args.tree.now (type_view c.args.bare)
    (named c.in_err-filled.field-0.0) c.in_err-filled.ensures.filled)

pub finished-returns-clause-finished : goal.finished-returns-clause-finished
finished-returns-clause-finished t c = parts_finished (visible_in c.args.scope) c.args.tree.now (type_view c.args.bare)
    (type_view c.in_ok-filled.filled) c.in_ok-filled.ensures.filled c.with_written.result
    c.with_written.ensures.constrained

pub with_parts-finished_kind-requires : goal.with_parts-finished_kind-requires
with_parts-finished_kind-requires t c = (
  search (rules, the_lemmas),
  (
    c.requires.known,
    kind_ready (visible_in c.args.scope) (written.base_view c.args.base.now) c.args.bare
        c.requires.ready,
  ),
)

pub with_parts-returns-in_err-inside-clause-filled : goal.with_parts-returns-in_err-inside-clause-filled
with_parts-returns-in_err-inside-clause-filled t c =
    let p = err_from_is_err_and c.from_residual.result c.from_residual.ensures.1 in
    rw (p.1, p.2) (kind_refused (visible_in c.args.scope) (written.base_view c.args.base.now) c.args.bare
    (named c.in_err-inside.field-0.0) c.in_err-inside.ensures)

pub with_parts-returns-clause-filled : goal.with_parts-returns-clause-filled
with_parts-returns-clause-filled t c =
    kind_finished (visible_in c.args.scope) (written.base_view c.args.base.now) c.args.bare
    (kind_view c.in_ok-inside.inside) c.in_ok-inside.ensures (type_view c.type_made_of.result) c.type_made_of.ensures

pub with_parts-returns-clause-part : goal.with_parts-returns-clause-part
with_parts-returns-clause-part t c =
    part_sound c.args.scope c.requires.known (written.base_view c.args.base.now) c.args.bare c.requires.ready
    (kind_view c.in_ok-inside.inside) c.in_ok-inside.ensures (type_view c.type_made_of.result) c.type_made_of.ensures

pub finished_kind-list-requires : goal.finished_kind-list-requires
finished_kind-list-requires t c = (
  search (rules, the_lemmas),
  (
    c.requires.known,
    list_ready (visible_in c.args.scope) c.args.base.now c.in-Structure.field-0 c.in-Structure.trees
        c.in-Structure.is c.deref.result.now c.deref.ensures.value (kind_view c.args.kind) c.requires.ready,
  ),
)

pub finished_kind-choice-requires : goal.finished_kind-choice-requires
finished_kind-choice-requires t c = (
  search (rules, the_lemmas),
  (
    c.requires.known,
    choice_ready (visible_in c.args.scope) c.args.base.now c.in-Choice.trees c.in-Choice.is
        c.deref-in-Choice.result.now c.deref-in-Choice.ensures.value (kind_view c.args.kind) c.requires.ready,
  ),
)

pub finished_kind-elements-requires : goal.finished_kind-elements-requires
finished_kind-elements-requires t c = (
  search (rules, the_lemmas),
  (
    c.requires.known,
    element_ready (visible_in c.args.scope) c.args.base.now c.in-Of.field-0 c.in-Of.field-1 c.in-Of.element
        c.in-Of.is c.deref-in-Of.result.now c.deref-in-Of.ensures (kind_view c.args.kind) c.requires.ready,
  ),
)

pub finished_kind-returns-in-Structure : goal.finished_kind-returns-in-Structure
finished_kind-returns-in-Structure t c =
    list_finished (visible_in c.args.scope) c.args.base.now c.in-Structure.field-0 c.in-Structure.trees
    c.in-Structure.is c.deref.result.now c.deref.ensures.value (kind_view c.args.kind) c.list.result c.list.ensures

pub finished_kind-returns-in-Choice : goal.finished_kind-returns-in-Choice
finished_kind-returns-in-Choice t c =
    choice_finished (visible_in c.args.scope) c.args.base.now c.in-Choice.trees c.in-Choice.is
    c.deref-in-Choice.result.now c.deref-in-Choice.ensures.value (kind_view c.args.kind) c.choice.result
    c.choice.ensures

pub finished_kind-returns-in-Of : goal.finished_kind-returns-in-Of
finished_kind-returns-in-Of t c =
    element_finished (visible_in c.args.scope) c.args.base.now c.in-Of.field-0 c.in-Of.field-1 c.in-Of.element
    c.in-Of.is c.deref-in-Of.result.now c.deref-in-Of.ensures
    (kind_view c.args.kind) c.elements.result c.elements.ensures

pub choice-returns-in_err-alternatives-in-Choice : goal.choice-returns-in_err-alternatives-in-Choice
choice-returns-in_err-alternatives-in-Choice t c =
    let p = err_from_is_err_and c.from_residual.result c.from_residual.ensures.1 in
    rw (p.1, p.2) (choice_refused (OthersInTurn (visible_in c.args.scope)
    (alternatives_of (map written.alternative_view c.args.trees.now)))
    c.args.kind c.in-Choice.bare c.in-Choice.is (named c.in_err-alternatives-in-Choice.field-0.0)
    c.in_err-alternatives-in-Choice.ensures)

pub boxed-returns-in_err-element : goal.boxed-returns-in_err-element
boxed-returns-in_err-element t c =
    let p = err_from_is_err_and c.from_residual.result c.from_residual.ensures.1 in
    rw (p.1, p.2) (rw c.into_inner.ensures at c.in_err-element.ensures.finished)

pub boxed-returns : goal.boxed-returns
boxed-returns t c = rw c.in_ok-new.ensures.ok (rw c.into_inner.ensures at c.in_ok-element.ensures.finished)

-- ---- lists

pub components-fill-requires : goal.components-fill-requires
components-fill-requires t c = (
  search (rules, the_lemmas),
  (
    c.requires.known,
    all_next (visible_in c.args.scope) (components_of (map written.component_view c.args.trees.now))
        (map component_view c.args.bare.items) (filling_view c.in_ok-start.start) c.in_ok-start.ensures
        c.requires.ready,
  ),
)

pub components-returns-in_err-filling : goal.components-returns-in_err-filling
components-returns-in_err-filling t c =
    let p = err_from_is_err_and c.from_residual-in_err-filling.result c.from_residual-in_err-filling.ensures.1 in
    rw (p.1, p.2) (filling_refused (FillsInTurn (visible_in c.args.scope)
    (components_of (map written.component_view c.args.trees.now))) (map component_view c.args.bare.items)
    (filling_view c.in_ok-start.start) c.in_ok-start.ensures
    (named c.in_err-filling.field-0.0) c.in_err-filling.ensures)

pub components-returns : goal.components-returns
components-returns t c =
    all_filled (FillsInTurn (visible_in c.args.scope) (components_of (map written.component_view c.args.trees.now)))
    (map component_view c.args.bare.items) (filling_view c.in_ok-start.start) c.in_ok-start.ensures
    (filling_view c.in_ok-filling.filling) c.in_ok-filling.ensures

pub alternatives-fill_alternatives-requires : goal.alternatives-fill_alternatives-requires
alternatives-fill_alternatives-requires t c = (
  search (rules, the_lemmas),
  (
    c.requires.known,
    all_others_next (visible_in c.args.scope) (alternatives_of (map written.alternative_view c.args.trees.now))
        (map component_view c.args.bare.items) (filling_view c.in_ok-start.start) c.in_ok-start.ensures
        c.requires.ready,
  ),
)

pub alternatives-returns-in_err-filling : goal.alternatives-returns-in_err-filling
alternatives-returns-in_err-filling t c =
    let p = err_from_is_err_and c.from_residual-in_err-filling.result c.from_residual-in_err-filling.ensures.1 in
    rw (p.1, p.2) (filling_refused (OthersInTurn (visible_in c.args.scope)
    (alternatives_of (map written.alternative_view c.args.trees.now))) (map component_view c.args.bare.items)
    (filling_view c.in_ok-start.start) c.in_ok-start.ensures
    (named c.in_err-filling.field-0.0) c.in_err-filling.ensures)

pub alternatives-returns : goal.alternatives-returns
alternatives-returns t c =
    all_filled (OthersInTurn (visible_in c.args.scope)
    (alternatives_of (map written.alternative_view c.args.trees.now))) (map component_view c.args.bare.items)
    (filling_view c.in_ok-start.start) c.in_ok-start.ensures
    (filling_view c.in_ok-filling.filling) c.in_ok-filling.ensures

pub fill-loop-tree-init : goal.fill-loop-tree-init
fill-loop-tree-init t c = record { so_far = λ answer h. h; next = c.requires.next }

pub fill-returns-in_err-so_far : goal.fill-returns-in_err-so_far
fill-returns-in_err-so_far t c =
    let p = err_from_is_err_and c.from_residual.result c.from_residual.ensures.1 in
    rw (p.1, p.2) (component_stops (visible_in c.args.scope) c.args.trees.now
    (filling_view c.args.filling) c.loop-tree.tree-index
    (filling_view c.loop-tree.so_far) c.tree-item.result c.loop-tree-test.true c.tree-item.is
    c.loop-tree.invariant.so_far
    (named c.in_err-so_far.field-0.0) c.in_err-so_far.ensures)

pub fill-fill_entry-requires : goal.fill-fill_entry-requires
fill-fill_entry-requires t c = (
  search (rules, the_lemmas),
  (
    c.requires.known,
    component_next (visible_in c.args.scope) c.args.trees.now c.loop-tree.tree-index
        (filling_view c.loop-tree.so_far) c.tree-item.result c.loop-tree-test.true c.tree-item.is
        c.loop-tree.invariant.next,
  ),
)

pub fill-loop-tree-preserved : goal.fill-loop-tree-preserved
fill-loop-tree-preserved t c = record {
  so_far = next_component (visible_in c.args.scope) c.args.trees.now
      (filling_view c.args.filling) c.loop-tree.tree-index
      (filling_view c.loop-tree.so_far) c.tree-item.result c.loop-tree-test.true c.tree-item.is
      c.loop-tree.invariant.so_far _ c.in_ok-so_far.ensures;
  next = components_after (visible_in c.args.scope) c.args.trees.now c.loop-tree.tree-index
      (filling_view c.loop-tree.so_far) _ c.tree-item.result c.loop-tree-test.true c.tree-item.is
      c.loop-tree.invariant.next c.in_ok-so_far.ensures;
}

pub fill-returns : goal.fill-returns
fill-returns t c = no_component (visible_in c.args.scope) c.args.trees.now
    (filling_view c.args.filling) c.loop-tree.tree-index
    (filling_view c.loop-tree.so_far) c.loop-tree-test.false c.loop-tree.invariant.so_far

pub fill_alternatives-loop-tree-init : goal.fill_alternatives-loop-tree-init
fill_alternatives-loop-tree-init t c = record { so_far = λ answer h. h; next = c.requires.next }

pub fill_alternatives-returns-in_err-so_far : goal.fill_alternatives-returns-in_err-so_far
fill_alternatives-returns-in_err-so_far t c =
    let p = err_from_is_err_and c.from_residual.result c.from_residual.ensures.1 in
    rw (p.1, p.2) (alternative_stops (visible_in c.args.scope) c.args.trees.now
    (filling_view c.args.filling) c.loop-tree.tree-index
    (filling_view c.loop-tree.so_far) c.tree-item.result c.loop-tree-test.true c.tree-item.is
    c.loop-tree.invariant.so_far
    (named c.in_err-so_far.field-0.0) c.in_err-so_far.ensures)

pub fill_alternatives-fill_alternative-requires : goal.fill_alternatives-fill_alternative-requires
fill_alternatives-fill_alternative-requires t c = (
  search (rules, the_lemmas),
  (
    c.requires.known,
    alternative_is_next (visible_in c.args.scope) c.args.trees.now c.loop-tree.tree-index
        (filling_view c.loop-tree.so_far) c.tree-item.result c.loop-tree-test.true c.tree-item.is
        c.loop-tree.invariant.next,
  ),
)

pub fill_alternatives-loop-tree-preserved : goal.fill_alternatives-loop-tree-preserved
fill_alternatives-loop-tree-preserved t c = record {
  so_far = next_alternative (visible_in c.args.scope) c.args.trees.now
      (filling_view c.args.filling) c.loop-tree.tree-index
      (filling_view c.loop-tree.so_far) c.tree-item.result c.loop-tree-test.true c.tree-item.is
      c.loop-tree.invariant.so_far _ c.in_ok-so_far.ensures;
  next = alternatives_after (visible_in c.args.scope) c.args.trees.now c.loop-tree.tree-index
      (filling_view c.loop-tree.so_far) _ c.tree-item.result c.loop-tree-test.true c.tree-item.is
      c.loop-tree.invariant.next c.in_ok-so_far.ensures;
}

pub fill_alternatives-returns : goal.fill_alternatives-returns
fill_alternatives-returns t c = no_alternative (visible_in c.args.scope) c.args.trees.now
    (filling_view c.args.filling) c.loop-tree.tree-index
    (filling_view c.loop-tree.so_far) c.loop-tree-test.false c.loop-tree.invariant.so_far

pub fill_entry-returns-in-ComponentsOf : goal.fill_entry-returns-in-ComponentsOf
fill_entry-returns-in-ComponentsOf t c =
    taken_in (visible_in c.args.scope) c.args.tree.now c.in-ComponentsOf.ty c.in-ComponentsOf.is
    c.deref-in-ComponentsOf.result.now c.deref-in-ComponentsOf.ensures
    (filling_view c.args.filling) c.fill_from.result c.fill_from.ensures

-- ---- one component

pub fill_next-fill_one-requires : goal.fill_next-fill_one-requires
fill_next-fill_one-requires t c = (
  search (rules, the_lemmas),
  (
    c.requires.known,
    next_ready (visible_in c.args.scope) (written.type_view c.args.tree.now) c.args.filling.left.items
        c.pop_front.new.self.items c.pop_front.result c.in-Some.bare c.pop_front.ensures.items c.in-Some.is
        c.requires.next,
  ),
)

pub fill_next-unreachable-requires : goal.fill_next-unreachable-requires
fill_next-unreachable-requires t c =
    never_none c.args.filling.left.items c.pop_front.new.self.items c.pop_front.result c.pop_front.ensures.items
    c.in-None.is c.pop_front.ensures.rest c.requires.next.0 c.requires.next.1 c.requires.next.2

pub fill_next-returns : goal.fill_next-returns
fill_next-returns t c =
    next_filled (visible_in c.args.scope) (FinishesInTurn (visible_in c.args.scope) (written.type_view c.args.tree.now))
    (written.presence_view c.args.presence.now)
    c.args.filling.done.items c.args.filling.left.items c.pop_front.new.self.items c.pop_front.result
    c.pop_front.ensures.items c.in-Some.bare c.in-Some.is c.fill_one.result c.fill_one.ensures

pub fill_one-returns-in_err-comp : goal.fill_one-returns-in_err-comp
fill_one-returns-in_err-comp t c =
    let p = err_from_is_err_and c.from_residual.result c.from_residual.ensures.1 in
    rw (p.1, p.2) (one_refused (visible_in c.args.scope) (FinishesInTurn (visible_in c.args.scope)
    (written.type_view c.args.tree.now))
    (written.presence_view c.args.presence.now)
    (component_view c.args.bare) (filling_view c.args.filling) (named c.in_err-comp.field-0.0) c.in_err-comp.ensures)

pub fill_one-returns : goal.fill_one-returns
fill_one-returns t c = inl (component_view c.in_ok-comp.comp, c.in_ok-comp.ensures, ap Ok c.in_ok-with_done.ensures)

pub finished_component-finished-requires : goal.finished_component-finished-requires
finished_component-finished-requires t c = (
  search (rules, the_lemmas),
  (
    c.requires.known,
    component_ready (visible_in c.args.scope) (written.type_view c.args.tree.now)
        (written.presence_view c.args.presence.now) c.args.bare c.requires.ready,
  ),
)

pub finished_component-returns-in_err-filled : goal.finished_component-returns-in_err-filled
finished_component-returns-in_err-filled t c =
    let p = err_from_is_err_and c.from_residual.result c.from_residual.ensures.1 in
    rw (p.1, p.2) (component_refused (visible_in c.args.scope) (written.type_view c.args.tree.now)
    (written.presence_view c.args.presence.now) c.args.bare
    (named c.in_err-filled.field-0.0) c.in_err-filled.ensures.finished)

pub finished_component-returns : goal.finished_component-returns
finished_component-returns t c =
    component_finished (visible_in c.args.scope) (written.type_view c.args.tree.now)
    (written.presence_view c.args.presence.now) c.args.bare
    (type_view c.in_ok-filled.filled.ty) c.in_ok-filled.ensures.finished c.with_presence.result c.with_presence.ensures

-- ---- COMPONENTS OF

pub fill_from-reference_taken_over-requires : goal.fill_from-reference_taken_over-requires
fill_from-reference_taken_over-requires t c = record {
  known = meant_there (visible_in c.args.scope) c.args.base.now c.in-Reference.name c.in-Reference.is
      (map component_view c.args.filling.left.items) c.requires.next;
  enough = enough_there (visible_in c.args.scope) c.args.base.now c.in-Reference.name c.in-Reference.is
      c.args.filling.left.items
      c.requires.next;
}
