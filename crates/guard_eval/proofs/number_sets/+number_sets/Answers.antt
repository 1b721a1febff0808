use Rattle.std.proofs.Common.{Bool, not, ◌&&◌, List, map, IfOk, refl, sym, ap, subst, ◌∙◌}
use Rattle.guard_integers.specs.Integers.{Integers, some_holds}
use Rattle.guard_model.specs.AbstractType as type
use Rattle.guard_model.specs.AbstractType.{AbstractType, Constraint, at}
use Rattle.guard_model.specs.Limits.{fits_128_bits}
use Rattle.guard_model.specs.TypeView.{type_view, kind_view, constraint_view, constraints_of}
use Rattle.guard_model.specs.ValueView.{value_view}
use Rattle.guard_model.specs.declared.ty.Kind.TheViews.{out-Ty, out-Cons}
use Rattle.guard_model.proofs.TypeViews.{type_view_is}
use Rattle.guard_eval.specs.inside.NumberSets.{allows, all_allow, some_allow, has, HoldsThose}
use Rattle.guard_eval.proofs.AtPlace.{constraint_view_is}
use Rattle.guard_eval.proofs.Numbered.{as_form, allows_one, allows_range, allows_inside, allows_some, allows_all, allows_other, allows_minus, all_next, all_none, some_next, some_none, of_own}
use Rattle.guard_eval.proofs.RuleViews.{view_one, view_inside, view_range, view_any, view_both, view_minus, view_other}
use Rattle.guard_eval.proofs.WholeSets.{if_ok, only_one, all_more, all_done, some_more, some_done, minus_has, other_has}
use Rattle.guard_eval.proofs.number_sets.+number_sets.Goals as goal

pub set_of-returns-in-One : goal.set_of-returns-in-One
set_of-returns-in-One t c =
    let cons = out-Cons c.args.constraint.now in
    as_form c.args.of _ _ _ _ (constraint_view_is c.args.constraint.now ∙ ap (at cons.site) (view_one cons.rule c.in-One.value c.in-One.is ∙ ap (λ v. type.single_value (value_view v)) (sym c.deref.ensures))) (λ kind z whole. allows_one c.args.of cons.site _ kind z) c.number_alone.ensures

pub set_of-returns-in-Inside : goal.set_of-returns-in-Inside
set_of-returns-in-Inside t c =
    let cons = out-Cons c.args.constraint.now in
    as_form c.args.of _ _ _ _ (constraint_view_is c.args.constraint.now ∙ ap (at cons.site) (view_inside cons.rule c.in-Inside.ty c.in-Inside.is ∙ ap (λ ty. type.contained_subtype (type_view ty)) (sym c.deref-in-Inside.ensures))) (λ kind z whole. allows_inside c.args.of cons.site _ kind z whole) c.set_of_type.ensures

pub set_of-returns-in-Range : goal.set_of-returns-in-Range
set_of-returns-in-Range t c =
    let cons = out-Cons c.args.constraint.now in
    as_form c.args.of _ _ _ _ (constraint_view_is c.args.constraint.now ∙ ap (at cons.site) (view_range cons.rule c.in-Range.low c.in-Range.high c.in-Range.is)) (λ kind z whole. allows_range c.args.of cons.site _ _ kind z) c.numbers_between.ensures

pub set_of-returns-in-Any : goal.set_of-returns-in-Any
set_of-returns-in-Any t c =
    let cons = out-Cons c.args.constraint.now in
    as_form c.args.of _ _ _ _ (constraint_view_is c.args.constraint.now ∙ ap (at cons.site) (view_any cons.rule c.in-Any.constraints c.in-Any.is ∙ ap (λ cs. type.union (constraints_of (map constraint_view cs))) (sym c.deref-in-Any.ensures.value))) (λ kind z whole. allows_some c.args.of cons.site _ kind z) c.set_of_some.ensures

pub set_of-returns-in-Both : goal.set_of-returns-in-Both
set_of-returns-in-Both t c =
    let cons = out-Cons c.args.constraint.now in
    as_form c.args.of _ _ _ _ (constraint_view_is c.args.constraint.now ∙ ap (at cons.site) (view_both cons.rule c.in-Both.constraints c.in-Both.is ∙ ap (λ cs. type.intersection (constraints_of (map constraint_view cs))) (sym c.deref-in-Both.ensures.value))) (λ kind z whole. allows_all c.args.of cons.site _ kind z) c.set_of_all.ensures

pub set_of-returns-in_ok-set_of-in-Minus : goal.set_of-returns-in_ok-set_of-in-Minus
set_of-returns-in_ok-set_of-in-Minus t c =
    let cons = out-Cons c.args.constraint.now in
    as_form c.args.of _ _ _ _ (constraint_view_is c.args.constraint.now ∙ ap (at cons.site) (view_minus cons.rule c.in-Minus.kept c.in-Minus.taken c.in-Minus.is ∙ rw (c.deref-in-Minus.ensures, c.deref-in-Minus-2.ensures) refl))
    (λ kind z whole. allows_minus c.args.of cons.site _ _ kind z)
    (if_ok c.minus-in-Minus.result _ _
    (λ set h kind whole z. minus_has _ _ (fits_128_bits z) _ _ _ (c.in_ok-numbers-in-Minus.ensures kind whole z) (c.in_ok-set_of-in-Minus.ensures kind whole z) (h z)) c.minus-in-Minus.ensures)

pub set_of-returns-in_ok-set_of-in-Other : goal.set_of-returns-in_ok-set_of-in-Other
set_of-returns-in_ok-set_of-in-Other t c =
    let cons = out-Cons c.args.constraint.now in
    as_form c.args.of _ _ _ _ (constraint_view_is c.args.constraint.now ∙ ap (at cons.site) (view_other cons.rule c.in-Other.other c.in-Other.is ∙ ap (λ o. type.all_except (constraint_view o)) (sym c.deref-in-Other.ensures)))
    (λ kind z whole. allows_other c.args.of cons.site _ kind z)
    (if_ok c.complement-in-Other.result _ _ (λ set h kind whole z. other_has _ (fits_128_bits z) _ _ (c.in_ok-set_of-in-Other.ensures kind whole z) (h z)) c.complement-in-Other.ensures)

pub set_of_all-returns-in-len1 : goal.set_of_all-returns-in-len1
set_of_all-returns-in-len1 t c =
    if_ok c.set_of.result _ _
    (λ set h kind whole z. h kind whole z ∙ ap (λ (b : Bool). fits_128_bits z && b) (only_one (λ cs. all_allow c.args.of cs kind z) (λ one. allows c.args.of one kind z) (λ one cs. all_next c.args.of kind z one cs) (all_none c.args.of kind z)
    c.args.constraints.now c.only-item.result c.in-len1.len_at_least c.in-len1.len_below c.only-item.is)) c.set_of.ensures

pub set_of_all-loop-count-preserved : goal.set_of_all-loop-count-preserved
set_of_all-loop-count-preserved t c = λ kind whole z.
    all_more (λ cs. all_allow c.args.of cs kind z) (λ one. allows c.args.of one kind z) (λ one cs. all_next c.args.of kind z one cs) c.args.constraints.now c.loop-count.count c.index-constraints-count.result
    (some_holds c.loop-count.left_out.items z) _ _ _ (fits_128_bits z) _ c.loop-count-test.true
    c.index-constraints-count.is (c.in_ok-keep.ensures z) (c.in_ok-complement.ensures z) (c.in_ok-numbers.ensures kind whole z) (c.loop-count.invariant kind whole z)

pub set_of_all-returns : goal.set_of_all-returns
set_of_all-returns t c =
    if_ok c.complement-3.result _ _
    (λ set h kind whole z. h z ∙ ap (λ (b : Bool). fits_128_bits z && not b) (c.in_ok-union_of.ensures z ∙ ap (λ (sets : List Integers). some_holds sets z) c.deref.ensures.value)
    ∙ all_done (λ cs. all_allow c.args.of cs kind z) (all_none c.args.of kind z) c.args.constraints.now c.loop-count.count (some_holds c.loop-count.left_out.items z) (fits_128_bits z) _ c.loop-count-test.false (c.loop-count.invariant kind whole z)) c.complement-3.ensures

pub set_of_some-loop-count-preserved : goal.set_of_some-loop-count-preserved
set_of_some-loop-count-preserved t c = λ kind whole z.
    some_more (λ cs. some_allow c.args.of cs kind z) (λ one. allows c.args.of one kind z) (λ one cs. some_next c.args.of kind z one cs) c.args.constraints.now c.loop-count.count c.index-constraints-count.result
    (some_holds c.loop-count.sets.items z) _ _ (fits_128_bits z) _ c.loop-count-test.true
    c.index-constraints-count.is (c.in_ok-keep.ensures z) (c.in_ok-set_of.ensures kind whole z) (c.loop-count.invariant kind whole z)

pub set_of_some-returns : goal.set_of_some-returns
set_of_some-returns t c =
    if_ok c.union_of.result _ _
    (λ set h kind whole z. h z ∙ ap (λ (sets : List Integers). some_holds sets z) c.deref.ensures.value
    ∙ some_done (λ cs. some_allow c.args.of cs kind z) (some_none c.args.of kind z) c.args.constraints.now c.loop-count.count (some_holds c.loop-count.sets.items z) (fits_128_bits z) _ c.loop-count-test.false (c.loop-count.invariant kind whole z)) c.union_of.ensures

pub set_of_type-returns-then-is_of : goal.set_of_type-returns-then-is_of
set_of_type-returns-then-is_of t c =
    let ty = out-Ty c.args.ty.now in
    let own = sym c.is_of.ensures ∙ c.if-is_of.true in
    subst (λ (a : AbstractType). IfOk c.set_of_all.result (λ set. HoldsThose c.args.of set (λ kind z. has c.args.of a z))) (sym (type_view_is c.args.ty.now))
    (if_ok c.set_of_all.result _ _
    (λ set h kind whole z. of_own c.args.of ty.tags.items (kind_view ty.kind) (constraints_of (map constraint_view ty.cons.items)) z _ own (h (kind_view ty.kind) own z ∙ ap (λ cs. fits_128_bits z && all_allow c.args.of (constraints_of (map constraint_view cs)) (kind_view ty.kind) z) c.deref.ensures.value)) c.set_of_all.ensures)
