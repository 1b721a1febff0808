use Rattle.std.proofs.Common.{arith, true, false, List, map, IsTrue, sym, ap, ◌∙◌}
use Rattle.std.proofs.lemmas.Grind.{common_steps}
use Rattle.std.specs.List.{list_all}
use Rattle.guard_model.specs.AbstractType.{AbstractType, AbstractKind, Constraint, Element}
use Rattle.guard_model.specs.TypeView.{OneComponent, OnePart, type_view, kind_view, component_view, components_of, kind_step, rule_step, comp_step, cons_step, part_step, ty_step}
use Rattle.guard_model.specs.declared.ty.Comp.{Comp}
use Rattle.guard_model.specs.declared.ty.Kind.TheFolds.{fold_out-Kind}
use Rattle.guard_model.specs.declared.ty.Ty.{Ty}
use Rattle.guard_model.proofs.Tests.{and_on, and_stop}
use Rattle.guard_model.proofs.TypeViews.{kind_view_sequence, kind_view_set, kind_view_choice, kind_view_sequence_of, kind_view_set_of}
use Rattle.guard_eval.specs.inside.Together.{keeps, keeps_inside, parts_keep, values_view, column, elements_of, has_free_parts}
use Rattle.guard_eval.proofs.AtPlace.{kind_of_view}
use Rattle.guard_eval.proofs.ManyValues.{all_keep_both, free_keeps, free_inside, all_sequences, all_sets, all_choices, all_sequences_of, all_sets_of, parts_next, parts_end}
use Rattle.guard_eval.proofs.WholeSets.{if_ok}
use Rattle.guard_eval.proofs.together.+together.Goals as goal

-- ---- own constraints, then parts

pub all_keep-returns-then-not-branch : goal.all_keep-returns-then-not-branch
all_keep-returns-then-not-branch t c =
    and_stop _ _ _ (sym c.in_ok-all_keep_own.ensures ∙ c.if-not-branch.true) (sym (all_keep_both (type_view c.args.ty.now) (values_view c.args.values.now)))

pub all_keep-returns : goal.all_keep-returns
all_keep-returns t c =
    let vs = values_view c.args.values.now in
    if_ok c.all_keep_inside.result _ _
    (λ b h. h ∙ ap (λ (kind : AbstractKind). list_all (keeps_inside kind) vs) (sym (kind_of_view c.args.ty.now))
    ∙ and_on _ _ _ (sym c.in_ok-all_keep_own.ensures ∙ c.if-not-branch.false) (sym (all_keep_both (type_view c.args.ty.now) vs)))
    c.all_keep_inside.ensures

-- ---- parts by the kind

pub all_keep_inside-returns-in-Sequence : goal.all_keep_inside-returns-in-Sequence
all_keep_inside-returns-in-Sequence t c =
    let vs = values_view c.args.values.now in
    if_ok c.all_keep_parts.result _ _
    (λ b h. h ∙ ap (λ (cs : List Comp). list_all (parts_keep false 0 (components_of (map component_view cs))) vs) c.deref.ensures.value ∙ all_sequences _ vs
    ∙ ap (λ (kind : AbstractKind). list_all (keeps_inside kind) vs) (sym (ap kind_view c.in-Sequence.is ∙ kind_view_sequence c.in-Sequence.comps)))
    c.all_keep_parts.ensures

pub all_keep_inside-returns-in-Set : goal.all_keep_inside-returns-in-Set
all_keep_inside-returns-in-Set t c =
    let vs = values_view c.args.values.now in
    if_ok c.all_keep_parts-in-Set.result _ _
    (λ b h. h ∙ ap (λ (cs : List Comp). list_all (parts_keep false 0 (components_of (map component_view cs))) vs) c.deref-in-Set.ensures.value ∙ all_sets _ vs
    ∙ ap (λ (kind : AbstractKind). list_all (keeps_inside kind) vs) (sym (ap kind_view c.in-Set.is ∙ kind_view_set c.in-Set.comps)))
    c.all_keep_parts-in-Set.ensures

pub all_keep_inside-returns-in-Choice : goal.all_keep_inside-returns-in-Choice
all_keep_inside-returns-in-Choice t c =
    let vs = values_view c.args.values.now in
    if_ok c.all_keep_parts-in-Choice.result _ _
    (λ b h. h ∙ ap (λ (cs : List Comp). list_all (parts_keep true 0 (components_of (map component_view cs))) vs) c.deref-in-Choice.ensures.value ∙ all_choices _ vs
    ∙ ap (λ (kind : AbstractKind). list_all (keeps_inside kind) vs) (sym (ap kind_view c.in-Choice.is ∙ kind_view_choice c.in-Choice.comps)))
    c.all_keep_parts-in-Choice.ensures

pub all_keep_inside-returns-in-SequenceOf : goal.all_keep_inside-returns-in-SequenceOf
all_keep_inside-returns-in-SequenceOf t c =
    let vs = values_view c.args.values.now in
    if_ok c.all_keep_elements.result _ _
    (λ b h. h ∙ ap (λ (ty : Ty). list_all (keeps (type_view ty)) (elements_of vs)) c.deref-in-SequenceOf.ensures ∙ all_sequences_of (type_view c.in-SequenceOf.ty.value) vs
    ∙ ap (λ (kind : AbstractKind). list_all (keeps_inside kind) vs) (sym (ap kind_view c.in-SequenceOf.is ∙ kind_view_sequence_of c.in-SequenceOf.ty)))
    c.all_keep_elements.ensures

pub all_keep_inside-returns-in-SetOf : goal.all_keep_inside-returns-in-SetOf
all_keep_inside-returns-in-SetOf t c =
    let vs = values_view c.args.values.now in
    if_ok c.all_keep_elements-in-SetOf.result _ _
    (λ b h. h ∙ ap (λ (ty : Ty). list_all (keeps (type_view ty)) (elements_of vs)) c.deref-in-SetOf.ensures ∙ all_sets_of (type_view c.in-SetOf.ty.value) vs
    ∙ ap (λ (kind : AbstractKind). list_all (keeps_inside kind) vs) (sym (ap kind_view c.in-SetOf.is ∙ kind_view_set_of c.in-SetOf.ty)))
    c.all_keep_elements-in-SetOf.ensures

pub all_keep_inside-returns-in_default : goal.all_keep_inside-returns-in_default
all_keep_inside-returns-in_default t c =
    let is = fold_out-Kind AbstractKind Element OneComponent Constraint OnePart AbstractType kind_step rule_step comp_step cons_step part_step ty_step c.args.kind.now in
    let free : IsTrue (has_free_parts (kind_view c.args.kind.now)) = grind (arith, common_steps, is) in
    sym (free_inside (kind_view c.args.kind.now) free (values_view c.args.values.now))

-- ---- parts one after the other

pub all_keep_parts-returns-then-not-branch : goal.all_keep_parts-returns-then-not-branch
all_keep_parts-returns-then-not-branch t c =
    let e = parts_next c.args.of_choice c.args.comps.now c.loop-place.place c.index-comps-place.result c.loop-place-test.true c.index-comps-place.is (values_view c.args.values.now) in
    and_stop _ _ _ (sym c.in_ok-column_keeps.ensures ∙ c.if-not-branch.true) (sym e ∙ c.loop-place.invariant)

pub all_keep_parts-loop-place-preserved : goal.all_keep_parts-loop-place-preserved
all_keep_parts-loop-place-preserved t c =
    let e = parts_next c.args.of_choice c.args.comps.now c.loop-place.place c.index-comps-place.result c.loop-place-test.true c.index-comps-place.is (values_view c.args.values.now) in
    and_on _ _ _ (sym c.in_ok-column_keeps.ensures ∙ c.if-not-branch.false) (sym e ∙ c.loop-place.invariant)

pub all_keep_parts-returns : goal.all_keep_parts-returns
all_keep_parts-returns t c =
    sym (parts_end c.args.of_choice c.args.comps.now c.loop-place.place c.loop-place-test.false (values_view c.args.values.now)) ∙ c.loop-place.invariant

-- ---- types that constrain nothing

pub column_keeps-returns-then-is_free : goal.column_keeps-returns-then-is_free
column_keeps-returns-then-is_free t c =
    sym (free_keeps (type_view c.args.ty.now) (c.is_free.ensures c.if-is_free.true) (column c.args.of_choice c.args.place (values_view c.args.values.now)))

pub all_keep_elements-returns-then-is_free : goal.all_keep_elements-returns-then-is_free
all_keep_elements-returns-then-is_free t c =
    sym (free_keeps (type_view c.args.ty.now) (c.is_free.ensures c.if-is_free.true) (elements_of (values_view c.args.values.now)))
