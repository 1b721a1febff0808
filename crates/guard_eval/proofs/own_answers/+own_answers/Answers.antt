use Rattle.std.proofs.Common.{rules, arith, ◌≡◌, List, Bor, sym, ap, ◌∙◌}
use Rattle.std.proofs.lemmas.Grind.{common_steps}
use Rattle.std.specs.List.{list_all}
use Rattle.guard_model.specs.AbstractType.{AbstractType, AbstractKind, Constraint, Element}
use Rattle.guard_model.specs.Components.{components_in}
use Rattle.guard_model.specs.Counts.{component_count}
use Rattle.guard_model.specs.TypeView.{OneComponent, OnePart, kind_view, kind_step, rule_step, comp_step, cons_step, part_step, ty_step}
use Rattle.guard_model.specs.declared.ty.Cons.{Cons}
use Rattle.guard_model.specs.declared.ty.Kind.TheFolds.{fold_out-Kind}
use Rattle.guard_model.specs.declared.ty.Kind.TheViews.{out-Ty, out-Comp}
use Rattle.guard_model.proofs.Tests.{and_on, and_stop}
use Rattle.guard_eval.specs.Presence.{element_kind}
use Rattle.guard_eval.specs.declared.gathered.Listing.{Listing}
use Rattle.guard_eval.specs.declared.parts_together.PlaceDemand.{PlaceDemand}
use Rattle.guard_eval.specs.inside.Gathered.{elements_pass_all, parts_pass_all, parts_at}
use Rattle.guard_eval.specs.inside.PartsTogether.{are_within}
use Rattle.guard_eval.specs.inside.Together.{gathered_view, passes_all, values_view, elements_of}
use Rattle.guard_eval.proofs.Gathering.{all_gathered, none_listed, parts_asked, demands_asked, none_within, none_passed, within_next, within_end, as_many, sequence_comps, set_comps, choice_comps, none_asked, elements_asked, sequence_element, set_element}
use Rattle.guard_eval.proofs.WholeSets.{if_ok}
use Rattle.guard_eval.proofs.own_answers.+own_answers.Goals as goal

-- ---- what is said of values, then what is said of elements

pub all_pass_gathered-returns-then-not-all_are_passing : goal.all_pass_gathered-returns-then-not-all_are_passing
all_pass_gathered-returns-then-not-all_are_passing t c =
    let vs = values_view c.args.values.now in
    let same = ap (λ (cs : List (Bor Cons)). list_all (passes_all (gathered_view cs) (kind_view c.args.kind.now)) vs) c.deref-2.ensures.value in
    and_stop _ _ _ (sym (c.all_are_passing.ensures ∙ same) ∙ c.if-not-all_are_passing.true) (sym (all_gathered c.args.gathered.now (kind_view c.args.kind.now) vs))

pub all_pass_gathered-returns-then-not-branch : goal.all_pass_gathered-returns-then-not-branch
all_pass_gathered-returns-then-not-branch t c =
    let vs = values_view c.args.values.now in
    let same = ap (λ (cs : List (Bor Cons)). list_all (passes_all (gathered_view cs) (kind_view c.args.kind.now)) vs) c.deref-2.ensures.value in
    let of_elements = ap (λ (cs : List (Bor Cons)). list_all (elements_pass_all (gathered_view cs) (element_kind (kind_view c.args.kind.now))) vs) c.deref-3.ensures.value in
    and_stop _ _ _ (sym (c.in_ok-all_have_passing_elements.ensures ∙ of_elements) ∙ c.if-not-branch.true)
    (and_on _ _ _ (sym (c.all_are_passing.ensures ∙ same) ∙ c.if-not-all_are_passing.false) (sym (all_gathered c.args.gathered.now (kind_view c.args.kind.now) vs)))

pub all_pass_gathered-returns : goal.all_pass_gathered-returns
all_pass_gathered-returns t c =
    let vs = values_view c.args.values.now in
    let same = ap (λ (cs : List (Bor Cons)). list_all (passes_all (gathered_view cs) (kind_view c.args.kind.now)) vs) c.deref-2.ensures.value in
    let of_elements = ap (λ (cs : List (Bor Cons)). list_all (elements_pass_all (gathered_view cs) (element_kind (kind_view c.args.kind.now))) vs) c.deref-3.ensures.value in
    if_ok c.all_have_passing_parts.result _ _
    (λ b h. h ∙ ap (λ (ls : List Listing). list_all (parts_pass_all ls (kind_view c.args.kind.now)) vs) c.deref-4.ensures.value
    ∙ and_on _ _ _ (sym (c.in_ok-all_have_passing_elements.ensures ∙ of_elements) ∙ c.if-not-branch.false)
    (and_on _ _ _ (sym (c.all_are_passing.ensures ∙ same) ∙ c.if-not-all_are_passing.false) (sym (all_gathered c.args.gathered.now (kind_view c.args.kind.now) vs))))
    c.all_have_passing_parts.ensures

-- ---- elements

pub all_have_passing_elements-returns-then-is_empty : goal.all_have_passing_elements-returns-then-is_empty
all_have_passing_elements-returns-then-is_empty t c =
    none_asked c.args.cons.now _ (values_view c.args.values.now) (sym c.is_empty.ensures ∙ c.if-is_empty.true)

pub all_have_passing_elements-returns-then-not-all_are_lists : goal.all_have_passing_elements-returns-then-not-all_are_lists
all_have_passing_elements-returns-then-not-all_are_lists t c =
    and_stop _ _ _ (sym c.all_are_lists.ensures ∙ c.if-not-all_are_lists.true)
    (sym (elements_asked c.args.cons.now (element_kind (kind_view c.args.kind.now)) (values_view c.args.values.now) (sym c.is_empty.ensures ∙ c.if-is_empty.false)))

pub all_have_passing_elements-returns-in-SequenceOf : goal.all_have_passing_elements-returns-in-SequenceOf
all_have_passing_elements-returns-in-SequenceOf t c =
    let vs = values_view c.args.values.now in
    if_ok c.all_elements_pass.result _ _
    (λ b h. h ∙ ap (λ (kind : AbstractKind). list_all (passes_all (gathered_view c.args.cons.now) kind) (elements_of vs)) (sequence_element c.deref.result.now c.args.kind.now c.in-SequenceOf.element c.deref.ensures c.in-SequenceOf.is)
    ∙ and_on _ _ _ (sym c.all_are_lists.ensures ∙ c.if-not-all_are_lists.false)
    (sym (elements_asked c.args.cons.now (element_kind (kind_view c.args.kind.now)) vs (sym c.is_empty.ensures ∙ c.if-is_empty.false))))
    c.all_elements_pass.ensures

pub all_have_passing_elements-returns-in-SetOf : goal.all_have_passing_elements-returns-in-SetOf
all_have_passing_elements-returns-in-SetOf t c =
    let vs = values_view c.args.values.now in
    if_ok c.all_elements_pass-in-SetOf.result _ _
    (λ b h. h ∙ ap (λ (kind : AbstractKind). list_all (passes_all (gathered_view c.args.cons.now) kind) (elements_of vs)) (set_element c.deref-in-SetOf.result.now c.args.kind.now c.in-SetOf.element c.deref-in-SetOf.ensures c.in-SetOf.is)
    ∙ and_on _ _ _ (sym c.all_are_lists.ensures ∙ c.if-not-all_are_lists.false)
    (sym (elements_asked c.args.cons.now (element_kind (kind_view c.args.kind.now)) vs (sym c.is_empty.ensures ∙ c.if-is_empty.false))))
    c.all_elements_pass-in-SetOf.ensures

pub all_have_passing_elements-returns-in_default : goal.all_have_passing_elements-returns-in_default
all_have_passing_elements-returns-in_default t c =
    let vs = values_view c.args.values.now in
    c.elements_pass_one_by_one.ensures ∙ ap (λ (kind : AbstractKind). list_all (passes_all (gathered_view c.args.cons.now) kind) (elements_of vs)) c.element_kind.ensures
    ∙ and_on _ _ _ (sym c.all_are_lists.ensures ∙ c.if-not-all_are_lists.false)
    (sym (elements_asked c.args.cons.now (element_kind (kind_view c.args.kind.now)) vs (sym c.is_empty.ensures ∙ c.if-is_empty.false)))

-- ---- parts

pub all_have_passing_parts-returns-then-is_empty : goal.all_have_passing_parts-returns-then-is_empty
all_have_passing_parts-returns-then-is_empty t c =
    none_listed c.args.listings.now (kind_view c.args.kind.now) (values_view c.args.values.now) (sym c.is_empty.ensures ∙ c.if-is_empty.true)

pub all_have_passing_parts-returns-then-not-all_have_parts : goal.all_have_passing_parts-returns-then-not-all_have_parts
all_have_passing_parts-returns-then-not-all_have_parts t c =
    and_stop _ _ _ (sym c.all_have_parts.ensures ∙ c.if-not-all_have_parts.true)
    (sym (parts_asked c.args.listings.now (kind_view c.args.kind.now) (values_view c.args.values.now) (sym c.is_empty.ensures ∙ c.if-is_empty.false)))

pub all_have_passing_parts-returns-then-not-all_are_placed : goal.all_have_passing_parts-returns-then-not-all_are_placed
all_have_passing_parts-returns-then-not-all_are_placed t c =
    and_stop _ _ _ (sym c.all_are_placed.ensures ∙ c.if-not-all_are_placed.true) (and_on _ _ _ (sym c.all_have_parts.ensures ∙ c.if-not-all_have_parts.false)
    (sym (demands_asked c.args.listings.now (kind_view c.args.kind.now) (values_view c.args.values.now) c.in_ok-demands.demands (sym c.is_empty.ensures ∙ c.if-is_empty.false) c.in_ok-demands.ensures.met)))

pub all_have_passing_parts-returns-in-Sequence : goal.all_have_passing_parts-returns-in-Sequence
all_have_passing_parts-returns-in-Sequence t c =
    let vs = values_view c.args.values.now in
    let kind = kind_view c.args.kind.now in
    let has = sequence_comps c.args.kind.now c.in-Sequence.comps c.deref-in-Sequence.result.now c.in-Sequence.is c.deref-in-Sequence.ensures.value in
    if_ok c.all_pass_within.result _ _
    (λ b h. h kind has (as_many c.in_ok-demands.demands.places.items c.deref.result.now c.deref-in-Sequence.result.now kind c.deref.ensures.value c.in_ok-demands.ensures.places has)
    ∙ ap (λ (ps : List PlaceDemand). list_all (are_within 0 ps kind) vs) c.deref.ensures.value
    ∙ and_on _ _ _ (sym c.all_are_placed.ensures ∙ c.if-not-all_are_placed.false) (and_on _ _ _ (sym c.all_have_parts.ensures ∙ c.if-not-all_have_parts.false)
    (sym (demands_asked c.args.listings.now kind vs c.in_ok-demands.demands (sym c.is_empty.ensures ∙ c.if-is_empty.false) c.in_ok-demands.ensures.met))))
    c.all_pass_within.ensures

pub all_have_passing_parts-returns-in-Set : goal.all_have_passing_parts-returns-in-Set
all_have_passing_parts-returns-in-Set t c =
    let vs = values_view c.args.values.now in
    let kind = kind_view c.args.kind.now in
    let has = set_comps c.args.kind.now c.in-Set.comps c.deref-in-Set-2.result.now c.in-Set.is c.deref-in-Set-2.ensures.value in
    if_ok c.all_pass_within-in-Set.result _ _
    (λ b h. h kind has (as_many c.in_ok-demands.demands.places.items c.deref-in-Set.result.now c.deref-in-Set-2.result.now kind c.deref-in-Set.ensures.value c.in_ok-demands.ensures.places has)
    ∙ ap (λ (ps : List PlaceDemand). list_all (are_within 0 ps kind) vs) c.deref-in-Set.ensures.value
    ∙ and_on _ _ _ (sym c.all_are_placed.ensures ∙ c.if-not-all_are_placed.false) (and_on _ _ _ (sym c.all_have_parts.ensures ∙ c.if-not-all_have_parts.false)
    (sym (demands_asked c.args.listings.now kind vs c.in_ok-demands.demands (sym c.is_empty.ensures ∙ c.if-is_empty.false) c.in_ok-demands.ensures.met))))
    c.all_pass_within-in-Set.ensures

pub all_have_passing_parts-returns-in-Choice : goal.all_have_passing_parts-returns-in-Choice
all_have_passing_parts-returns-in-Choice t c =
    let vs = values_view c.args.values.now in
    let kind = kind_view c.args.kind.now in
    let has = choice_comps c.args.kind.now c.in-Choice.comps c.deref-in-Choice-2.result.now c.in-Choice.is c.deref-in-Choice-2.ensures.value in
    if_ok c.all_pass_within-in-Choice.result _ _
    (λ b h. h kind has (as_many c.in_ok-demands.demands.places.items c.deref-in-Choice.result.now c.deref-in-Choice-2.result.now kind c.deref-in-Choice.ensures.value c.in_ok-demands.ensures.places has)
    ∙ ap (λ (ps : List PlaceDemand). list_all (are_within 0 ps kind) vs) c.deref-in-Choice.ensures.value
    ∙ and_on _ _ _ (sym c.all_are_placed.ensures ∙ c.if-not-all_are_placed.false) (and_on _ _ _ (sym c.all_have_parts.ensures ∙ c.if-not-all_have_parts.false)
    (sym (demands_asked c.args.listings.now kind vs c.in_ok-demands.demands (sym c.is_empty.ensures ∙ c.if-is_empty.false) c.in_ok-demands.ensures.met))))
    c.all_pass_within-in-Choice.ensures

pub all_have_passing_parts-returns : goal.all_have_passing_parts-returns
all_have_passing_parts-returns t c =
    let vs = values_view c.args.values.now in
    let is = fold_out-Kind AbstractKind Element OneComponent Constraint OnePart AbstractType kind_step rule_step comp_step cons_step part_step ty_step c.args.kind.now in
    let none : component_count (components_in (kind_view c.args.kind.now)) ≡ 0 = grind (arith, common_steps, is) in
    none_within c.in_ok-demands.demands.places.items (c.in_ok-demands.ensures.places ∙ none) (kind_view c.args.kind.now) vs
    ∙ and_on _ _ _ (sym c.all_are_placed.ensures ∙ c.if-not-all_are_placed.false) (and_on _ _ _ (sym c.all_have_parts.ensures ∙ c.if-not-all_have_parts.false)
    (sym (demands_asked c.args.listings.now (kind_view c.args.kind.now) vs c.in_ok-demands.demands (sym c.is_empty.ensures ∙ c.if-is_empty.false) c.in_ok-demands.ensures.met)))

-- ---- the parts at one place after the other

pub all_pass_at-returns-then-is_empty : goal.all_pass_at-returns-then-is_empty
all_pass_at-returns-then-is_empty t c = none_passed c.args.cons.now (kind_view c.args.kind.now) _ (sym c.is_empty.ensures ∙ c.if-is_empty.true)

pub all_pass_within-returns-then-not-branch : goal.all_pass_within-returns-then-not-branch
all_pass_within-returns-then-not-branch t c = λ kind has many.
    let vs = values_view c.args.values.now in
    let e = within_next c.args.places.now c.args.comps.now c.loop-place.place c.index-places-place.result c.index-comps-place.result (omega (arith, many, c.loop-place-test.true)) c.index-places-place.is c.loop-place-test.true c.index-comps-place.is kind vs has in
    and_stop _ _ _ (sym (c.in_ok-all_pass_at.ensures ∙ ap (λ (cs : List (Bor Cons)). list_all (passes_all (gathered_view cs) (kind_view (out-Ty (out-Comp c.index-comps-place.result).ty).kind)) (parts_at c.loop-place.place vs)) (c.deref.ensures.value ∙ ap (λ (p : PlaceDemand). p.within.items) (sym c.index-places-place.is))) ∙ c.if-not-branch.true)
    (sym e ∙ c.loop-place.invariant kind has many)

pub all_pass_within-loop-place-preserved : goal.all_pass_within-loop-place-preserved
all_pass_within-loop-place-preserved t c = λ kind has many.
    let vs = values_view c.args.values.now in
    let e = within_next c.args.places.now c.args.comps.now c.loop-place.place c.index-places-place.result c.index-comps-place.result (omega (arith, many, c.loop-place-test.true)) c.index-places-place.is c.loop-place-test.true c.index-comps-place.is kind vs has in
    and_on _ _ _ (sym (c.in_ok-all_pass_at.ensures ∙ ap (λ (cs : List (Bor Cons)). list_all (passes_all (gathered_view cs) (kind_view (out-Ty (out-Comp c.index-comps-place.result).ty).kind)) (parts_at c.loop-place.place vs)) (c.deref.ensures.value ∙ ap (λ (p : PlaceDemand). p.within.items) (sym c.index-places-place.is))) ∙ c.if-not-branch.false)
    (sym e ∙ c.loop-place.invariant kind has many)

pub all_pass_within-returns : goal.all_pass_within-returns
all_pass_within-returns t c = λ kind has many.
    sym (within_end c.args.places.now c.loop-place.place (omega (arith, many, c.loop-place-test.false)) kind (values_view c.args.values.now)) ∙ c.loop-place.invariant kind has many
