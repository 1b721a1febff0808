use Rattle.std.proofs.Common.{◌≡◌, ◌+◌, ◌++◌, rules, map, drop, refl, sym, ap, ◌∙◌}
use Rattle.guard_syntax.specs.Trees.{united_of, met_of, parts_of}
use Rattle.guard_syntax.specs.SetViews.{set_of, intersection_of, set_view, intersection_view, difference_view, joined_intersection_view, joined_difference_view, part_view}
use Rattle.guard_syntax.specs.declared.tree.ElementForm.TheFolds.{fold_out-JoinedIntersection, fold_out-JoinedDifference}
use Rattle.guard_syntax.specs.declared.tree.ElementForm.{the_lemmas as tree_lemmas}
use Rattle.guard_names.specs.Mentions as mentions
use Rattle.guard_names.proofs.Mentioned.Fronts.{in_parts_first}
use Rattle.guard_names.proofs.Mentioned.Gathering.{one_more, all_gathered, one_after_other}
use Rattle.guard_names.proofs.mentions.+sets.Goals as goal

pub add_set-add_united-requires : goal.add_set-add_united-requires
add_set-add_united-requires t c = rw c.deref-in-Union.ensures.value (search (rules, tree_lemmas))

pub add_set-returns-in_ok-add_intersection-in-Union : goal.add_set-returns-in_ok-add_intersection-in-Union
add_set-returns-in_ok-add_intersection-in-Union t c =
    let first = intersection_view c.in-Union.first.value in
    let others = map joined_intersection_view c.in-Union.others.items in
    let e : set_view c.args.set.now ≡ set_of first others = search (rules, tree_lemmas) in
    rw e (one_after_other _ _ _ _ _ _ (rw c.deref.ensures at c.in_ok-add_intersection-in-Union.ensures) (rw c.deref-in-Union.ensures.value at c.add_united.ensures))

pub add_intersection-add_met-requires : goal.add_intersection-add_met-requires
add_intersection-add_met-requires t c = rw c.deref-in-Differences.ensures.value (search (rules, tree_lemmas))

pub add_intersection-returns-in_ok-add_difference-in-Differences : goal.add_intersection-returns-in_ok-add_difference-in-Differences
add_intersection-returns-in_ok-add_difference-in-Differences t c =
    let first = difference_view c.in-Differences.first.value in
    let others = map joined_difference_view c.in-Differences.others.items in
    let e : intersection_view c.args.intersection.now ≡ intersection_of first others = search (rules, tree_lemmas) in
    rw e (one_after_other _ _ _ _ _ _ (rw c.deref.ensures at c.in_ok-add_difference-in-Differences.ensures) (rw c.deref-in-Differences.ensures.value at c.add_met.ensures))

pub add_united-loop-joined-init : goal.add_united-loop-joined-init
add_united-loop-joined-init t c = refl

pub add_united-loop-joined-preserved : goal.add_united-loop-joined-preserved
add_united-loop-joined-preserved t c =
    one_more (λ xs. mentions.in_united (united_of (map joined_intersection_view xs))) c.args.others.now c.loop-joined.joined-index _
    c.joined-item.result _ _ _ c.loop-joined-test.true c.joined-item.is c.in_ok-add_intersection.ensures c.loop-joined.invariant (rw fold_out-JoinedIntersection refl)

pub add_united-returns : goal.add_united-returns
add_united-returns t c =
    all_gathered (λ xs. mentions.in_united (united_of (map joined_intersection_view xs))) c.args.others.now c.loop-joined.joined-index _ _ c.loop-joined-test.false refl c.loop-joined.invariant

pub add_met-loop-joined-init : goal.add_met-loop-joined-init
add_met-loop-joined-init t c = refl

pub add_met-loop-joined-preserved : goal.add_met-loop-joined-preserved
add_met-loop-joined-preserved t c =
    one_more (λ xs. mentions.in_met (met_of (map joined_difference_view xs))) c.args.others.now c.loop-joined.joined-index _
    c.joined-item.result _ _ _ c.loop-joined-test.true c.joined-item.is c.in_ok-add_difference.ensures c.loop-joined.invariant (rw fold_out-JoinedDifference refl)

pub add_met-returns : goal.add_met-returns
add_met-returns t c =
    all_gathered (λ xs. mentions.in_met (met_of (map joined_difference_view xs))) c.args.others.now c.loop-joined.joined-index _ _ c.loop-joined-test.false refl c.loop-joined.invariant

pub add_parts-loop-part-init : goal.add_parts-loop-part-init
add_parts-loop-part-init t c = refl

pub add_parts-returns : goal.add_parts-returns
add_parts-returns t c =
    all_gathered (λ xs. mentions.in_parts (parts_of (map part_view xs))) c.args.parts.now c.loop-part.part-index _ _ c.loop-part-test.false refl c.loop-part.invariant

pub add_parts-loop-part-preserved : goal.add_parts-loop-part-preserved
add_parts-loop-part-preserved t c =
    one_more (λ xs. mentions.in_parts (parts_of (map part_view xs))) c.args.parts.now c.loop-part.part-index _
    c.part-item.result _ _ _ c.loop-part-test.true c.part-item.is c.in_ok-add_perhaps.ensures c.loop-part.invariant (in_parts_first c.part-item.result (drop (c.loop-part.part-index + 1) c.args.parts.now))
