use Rattle.std.proofs.Common.{map, ap, sym, ◌∙◌}
use Rattle.guard_model.specs.AbstractType as type
use Rattle.guard_model.specs.AbstractType.{at}
use Rattle.guard_model.specs.TypeView.{constraint_view, element_view, part_view, parts_of}
use Rattle.guard_model.specs.declared.ty.Kind.TheViews.{out-Cons}
use Rattle.guard_eval.proofs.Alternatives.{constraint_next}
use Rattle.guard_eval.proofs.AtPlace.{constraint_view_is, element_view_each}
use Rattle.guard_eval.proofs.Gathering.{of_elements_more, of_parts_more, of_values_more, one_more}
use Rattle.guard_eval.proofs.RuleViews.{view_parts}
use Rattle.guard_eval.proofs.gathered.+gathering.Goals as goal

pub add-returns-in_ok-push-in-Each : goal.add-returns-in_ok-push-in-Each
add-returns-in_ok-push-in-Each t c = λ kind v.
    of_elements_more c.args.gathered.now.of_values.items c.args.gathered.now.of_elements.items _ c.deref-in-Each.result (out-Cons c.args.one.now).site (constraint_view c.args.one.now) kind v _ c.in_ok-push-in-Each.ensures.items
    (constraint_view_is c.args.one.now ∙ ap (at (out-Cons c.args.one.now).site) (ap element_view c.in-Each.is ∙ element_view_each c.in-Each.each ∙ ap (λ x. type.with_component (constraint_view x)) (sym c.deref-in-Each.ensures)))

pub add-returns-in_ok-push-in-Parts : goal.add-returns-in_ok-push-in-Parts
add-returns-in_ok-push-in-Parts t c = λ kind v.
    let cons = out-Cons c.args.one.now in
    of_parts_more _ _ c.args.gathered.now.of_parts.items _ c.as_listed.result cons.site (constraint_view c.args.one.now) kind v c.in_ok-push-in-Parts.ensures.items
    (constraint_view_is c.args.one.now ∙ ap (at cons.site) (view_parts cons.rule c.in-Parts.partial c.in-Parts.parts c.in-Parts.is)
    ∙ sym (ap (λ b. at cons.site (type.with_components b (parts_of (map part_view c.as_listed.result.parts.now)))) c.as_listed.ensures.partial
    ∙ ap (λ ps. at cons.site (type.with_components c.in-Parts.partial (parts_of (map part_view ps)))) (c.as_listed.ensures.parts ∙ c.deref-in-Parts.ensures.value)))

pub add-returns-in_ok-push-in_default : goal.add-returns-in_ok-push-in_default
add-returns-in_ok-push-in_default t c = λ kind v.
    of_values_more c.args.gathered.now.of_values.items _ c.args.one kind v _ c.in_ok-push-in_default.ensures.items

pub add_all-loop-one-preserved : goal.add_all-loop-one-preserved
add_all-loop-one-preserved t c = λ kind v.
    one_more _ _ _ _ _ _ (c.in_ok-add.ensures kind v) (constraint_next c.args.cons.now c.loop-one.one-index c.one-item.result c.loop-one-test.true c.one-item.is kind v) (c.loop-one.invariant kind v)
