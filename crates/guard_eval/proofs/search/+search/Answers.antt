use Rattle.std.proofs.Common.{rules, ◌≡◌, sym, ap, ◌∙◌, ◌⊎◌, length, inl, inr, map, drop, ◌+◌}
use Rattle.std.specs.Slice.Iter.{iter_rest}
use Rattle.std.specs.Iterator.Adapters.{zip_first, zip_second, enumerate_source, enumerate_count}
use Rattle.guard_model.specs.declared.site.Step.TheVariants.{Component}
use Rattle.guard_model.specs.TypeView.{component_view, components_of, kind_view, element_view, part_view, parts_of}
use Rattle.guard_model.specs.AbstractType.{at}
use Rattle.guard_model.specs.declared.ty.Kind.TheViews.{out-Cons}
use Rattle.std.specs.Option.{option_or}
use Rattle.guard_model.specs.ValueView.{value_view}
use Rattle.guard_model.proofs.TypeViews.{kind_view_sequence, kind_view_set}
use Rattle.guard_model.proofs.ValueViews.{value_view_fields}
use Rattle.guard_model.proofs.Components.{found_there, found_nowhere}
use Rattle.guard_eval.specs.inside.Failures.{found_by, under, failure_by, first_part_failure}
use Rattle.guard_eval.proofs.AtPlace.{chosen_failure, no_failure, failure_at_end, parts_next, constraint_view_is, element_view_each}
use Rattle.guard_eval.proofs.search.+search.Goals as goal

pub failure_inside-returns-in-Sequence-Fields : goal.failure_inside-returns-in-Sequence-Fields
failure_inside-returns-in-Sequence-Fields t c = search (rules, kind_view_sequence, value_view_fields)

pub failure_inside-returns-in-Set-Fields : goal.failure_inside-returns-in-Set-Fields
failure_inside-returns-in-Set-Fields t c = search (rules, kind_view_set, value_view_fields)

pub failure_from-returns : goal.failure_from-returns
failure_from-returns t c =
    let i = c.loop-index.index-iterator in
    let cs = iter_rest (zip_first (enumerate_source i)) in
    let fs = iter_rest (zip_second (enumerate_source i)) in
    let end : (length cs ≡ 0) ⊎ (length fs ≡ 0) = elim c.in-None.ensures.steps.0 [ inl w ↦ inl w.1.0 | inr w ↦ inr w.1.0 ] in
    sym (failure_at_end (enumerate_count i) cs fs end) ∙ c.loop-index.invariant.left

pub failure_of_chosen-returns-in_err-comp : goal.failure_of_chosen-returns-in_err-comp
failure_of_chosen-returns-in_err-comp t c =
    let cs = components_of (map component_view c.args.comps.now) in
    let none = rw c.from.ensures at (found_nowhere c.get.result c.args.comps.now c.from.result c.get.ensures.lookup.3 c.in_err-comp.was) in
    ap (found_by _) c.from_residual.ensures ∙ ap (under (Component c.args.at)) (sym (no_failure cs c.args.at (value_view c.args.value.now) none))

pub failure_of_chosen-returns-in_err-site : goal.failure_of_chosen-returns-in_err-site
failure_of_chosen-returns-in_err-site t c =
    let cs = components_of (map component_view c.args.comps.now) in
    let v = value_view c.args.value.now in
    let there = rw c.from.ensures at (found_there c.get.result c.args.comps.now c.from.result c.in_ok-comp.comp c.get.ensures.lookup.3 c.in_ok-comp.was) in
    let none = sym (ap (found_by _) c.in_err-site.was) ∙ c.failure.ensures in
    ap (found_by _) c.from_residual-in_err-site.ensures ∙ ap (under (Component c.args.at)) (none ∙ sym (chosen_failure cs c.args.at _ v there))

pub failure_of_chosen-returns : goal.failure_of_chosen-returns
failure_of_chosen-returns t c =
    let cs = components_of (map component_view c.args.comps.now) in
    let v = value_view c.args.value.now in
    let there = rw c.from.ensures at (found_there c.get.result c.args.comps.now c.from.result c.in_ok-comp.comp c.get.ensures.lookup.3 c.in_ok-comp.was) in
    let some = sym (ap (found_by _) c.in_ok-site.was) ∙ c.failure.ensures in
    rw c.from-2.ensures at c.under_component.ensures ∙ ap (under (Component c.args.at)) (some ∙ sym (chosen_failure cs c.args.at _ v there))

pub failure_by-returns-in-Each : goal.failure_by-returns-in-Each
failure_by-returns-in-Each t c =
    let e = constraint_view_is c.args.cons.now ∙ ap (at (out-Cons c.args.cons.now).site) (ap element_view c.in-Each.is ∙ element_view_each c.in-Each.each) in
    rw c.deref-in-Each.ensures at c.failure_in_items.ensures ∙ sym (ap (λ x. failure_by x (kind_view c.args.kind.now) (value_view c.args.value.now)) e)

pub first_part_failure-returns-in-Some : goal.first_part_failure-returns-in-Some
first_part_failure-returns-in-Some t c =
    let v = value_view c.args.value.now in
    let k = kind_view c.args.kind.now in
    let e = parts_next c.args.parts.now c.loop-part.part-index c.part-item.result c.loop-part-test.true c.part-item.is c.args.partial k v in
    let found = sym (ap (found_by _) c.in-Some.is) ∙ c.part_failure.ensures in
    ap (λ w. option_or w (first_part_failure (parts_of (map part_view (drop (c.loop-part.part-index + 1) c.args.parts.now))) c.args.partial k v)) found
    ∙ sym e ∙ c.loop-part.invariant

pub first_part_failure-loop-part-preserved : goal.first_part_failure-loop-part-preserved
first_part_failure-loop-part-preserved t c =
    let v = value_view c.args.value.now in
    let k = kind_view c.args.kind.now in
    let e = parts_next c.args.parts.now c.loop-part.part-index c.part-item.result c.loop-part-test.true c.part-item.is c.args.partial k v in
    search (rules, e)
