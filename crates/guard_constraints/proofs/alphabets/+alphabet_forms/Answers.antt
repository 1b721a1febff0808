use Rattle.std.proofs.Common.{◌≡◌, refl, rules, map, sym, ◌∙◌}
use Rattle.std.proofs.lemmas.Result.{err_from_is_err_and}
use Rattle.guard_syntax.specs.Trees as written
use Rattle.guard_syntax.specs.Trees.{united_of, met_of}
use Rattle.guard_syntax.specs.declared.tree.ElementForm.{the_lemmas as tree_lemmas}
use Rattle.guard_syntax.specs.SetViews.{site_of_difference, set_view, intersection_view, difference_view, joined_difference_view, joined_intersection_view}
use Rattle.guard_constraints.specs.PermittedAlphabets.{items_of, items_of_form, items_of_united}
use Rattle.guard_constraints.specs.inside.Reading.{gathered}
use Rattle.guard_constraints.specs.Views.{named, item_view}
use Rattle.guard_constraints.proofs.CodeSteps.KeptTrees.{joined_intersection_is}
use Rattle.guard_constraints.proofs.CodeSteps.AlphabetForms.{union_then, united_goes_on, united_stops, united_ends, alone_taken, joined_refused}
use Rattle.guard_constraints.proofs.alphabets.+alphabet_forms.Goals as goal

pub in_intersection-returns-then-not-is_empty : goal.in_intersection-returns-then-not-is_empty
in_intersection-returns-then-not-is_empty t c =
    let d = difference_view c.in-Differences.first.value in
    let others = c.in-Differences.others.items in
    let e : intersection_view c.args.tree.now ≡ written.intersection (site_of_difference d) d (met_of (map joined_difference_view others)) = search (rules, tree_lemmas) in
    rw (e, joined_refused (site_of_difference d) d others (rw c.deref-others.ensures.value at (sym c.is_empty.ensures ∙ c.if-not-is_empty.true))) refl

pub in_intersection-returns-else-not-is_empty : goal.in_intersection-returns-else-not-is_empty
in_intersection-returns-else-not-is_empty t c =
    let d = difference_view c.in-Differences.first.value in
    let others = c.in-Differences.others.items in
    let e : intersection_view c.args.tree.now ≡ written.intersection (site_of_difference d) d (met_of (map joined_difference_view others)) = search (rules, tree_lemmas) in
    rw (e, alone_taken (site_of_difference d) d others (rw c.deref-others.ensures.value at (sym c.is_empty.ensures ∙ c.if-not-is_empty.false))) (rw c.deref.ensures at c.in_difference.ensures)

pub in_set-returns-in_ok-items-in-Union : goal.in_set-returns-in_ok-items-in-Union
unfolding items_of
in_set-returns-in_ok-items-in-Union t c =
    let e : items_of (set_view c.args.set.now) ≡ items_of_form (written.union (intersection_view c.in-Union.first.value) (united_of (map joined_intersection_view c.in-Union.others.items))) = search (rules, tree_lemmas) in
    rw (e, union_then c.args.site (map item_view c.args.items.items) (intersection_view c.in-Union.first.value) (united_of (map joined_intersection_view c.in-Union.others.items)) (map item_view c.in_ok-items-in-Union.items.items) (rw c.deref.ensures at c.in_ok-items-in-Union.ensures))
    (rw c.deref-in-Union.ensures.value at c.in_united.ensures)

pub in_united-loop-other-preserved : goal.in_united-loop-other-preserved
in_united-loop-other-preserved t c =
    united_goes_on c.args.site (map item_view c.loop-other.all.items) c.args.others.now c.loop-other.other-index
    (gathered c.args.site (map item_view c.args.items.items) (items_of_united (united_of (map joined_intersection_view c.args.others.now)))) c.loop-other.invariant
    c.other-item.result c.other-item.result c.loop-other-test.true c.other-item.is (map item_view c.in_ok-all.all.items)
    (rw (joined_intersection_is c.other-item.result) c.in_ok-all.ensures)

pub in_united-returns-in_err-all : goal.in_united-returns-in_err-all
in_united-returns-in_err-all t c =
    let p = err_from_is_err_and c.from_residual.result c.from_residual.ensures.1 in
    rw (p.1, p.2) (united_stops c.args.site (map item_view c.loop-other.all.items) c.args.others.now c.loop-other.other-index
    (gathered c.args.site (map item_view c.args.items.items) (items_of_united (united_of (map joined_intersection_view c.args.others.now)))) c.loop-other.invariant
    c.other-item.result c.other-item.result c.loop-other-test.true c.other-item.is (named c.in_err-all.field-0.0)
    (rw (joined_intersection_is c.other-item.result) c.in_err-all.ensures))

pub in_united-returns : goal.in_united-returns
in_united-returns t c =
    united_ends c.args.site (map item_view c.loop-other.all.items) c.args.others.now c.loop-other.other-index
    (gathered c.args.site (map item_view c.args.items.items) (items_of_united (united_of (map joined_intersection_view c.args.others.now)))) c.loop-other.invariant c.loop-other-test.false
