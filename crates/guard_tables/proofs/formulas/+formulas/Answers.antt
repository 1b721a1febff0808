use Rattle.std.proofs.Common.{rules, arith, ◌≡◌, ◌≤◌, sym, ap, ◌∙◌, subst}
use Rattle.guard_model.specs.AbstractType as type
use Rattle.guard_model.specs.AbstractType.{Element}
use Rattle.guard_model.specs.TypeView.{kind_view, constraint_view, element_view}
use Rattle.guard_model.specs.declared.ty.Kind.{the_lemmas}
use Rattle.guard_tables.specs.Forms.{form_element}
use Rattle.guard_tables.specs.inside.FormViews.{formula_of}
use Rattle.guard_tables.proofs.FormRooms.{all_room, all_so_far, each_room, each_so_far, minus_room}
use Rattle.guard_eval.proofs.RuleViews.{view_minus}
use Rattle.guard_tables.proofs.SlotCounts.{own_up}
use Rattle.guard_tables.proofs.formulas.+formulas.Goals as goal

pub form_all-form_one-requires : goal.form_all-form_one-requires
form_all-form_one-requires t c =
    let l = c.loop-constraint in
    (search (rules, the_lemmas), all_room c.args.slots (kind_view c.args.kind.now) c.args.constraints.now l.constraint-index c.constraint-item.result (formula_of l.tests l.forms.items) _ c.loop-constraint-test.true c.constraint-item.is l.invariant c.requires)

pub form_all-loop-constraint-preserved : goal.form_all-loop-constraint-preserved
form_all-loop-constraint-preserved t c =
    let l = c.loop-constraint in
    all_so_far c.args.slots (kind_view c.args.kind.now) c.args.constraints.now l.constraint-index c.constraint-item.result (formula_of l.tests l.forms.items) _ _ c.loop-constraint-test.true c.constraint-item.is c.in_ok-form_one.ensures l.invariant

pub form_each-form_own-requires : goal.form_each-form_own-requires
form_each-form_own-requires t c =
    let l = c.loop-constraint in
    (search (rules, the_lemmas), each_room (kind_view c.args.kind.now) c.args.constraints.now l.constraint-index c.constraint-item.result (formula_of l.tests l.forms.items) _ c.loop-constraint-test.true c.constraint-item.is l.invariant c.requires)

pub form_each-loop-constraint-preserved : goal.form_each-loop-constraint-preserved
form_each-loop-constraint-preserved t c =
    let l = c.loop-constraint in
    each_so_far (kind_view c.args.kind.now) c.args.constraints.now l.constraint-index c.constraint-item.result (formula_of l.tests l.forms.items) _ _ c.loop-constraint-test.true c.constraint-item.is c.in_ok-form_own.ensures l.invariant

-- ---- room for the slots

pub form_own-slot_at-slot-requires : goal.form_own-slot_at-slot-requires
form_own-slot_at-slot-requires t c =
    let p = own_up c.args.taken (kind_view c.args.kind.now) (constraint_view c.args.constraint.now) (formula_of c.args.tests.now c.args.forms.now.items) in
    omega (arith, p, c.requires)

pub form_rule-form_one-requires : goal.form_rule-form_one-requires
form_rule-form_one-requires t c =
    let kind = kind_view c.args.kind.now in
    let f = formula_of c.args.tests.now c.args.forms.now.items in
    let a = constraint_view c.deref-in-Minus.result.now in
    let b = constraint_view c.in-Minus.taken.value in
    let e : element_view c.args.rule.now ≡ type.except a b =
    view_minus c.args.rule.now c.in-Minus.kept c.in-Minus.taken c.in-Minus.is ∙ ap (λ k. type.except (constraint_view k) b) (sym c.deref-in-Minus.ensures) in
    (search (rules, the_lemmas), minus_room c.args.slots kind a b f (subst (λ (x : Element). (form_element c.args.slots kind x f).next ≤ 256) e c.requires))
