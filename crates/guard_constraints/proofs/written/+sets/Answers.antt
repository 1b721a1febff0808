use Rattle.std.proofs.Common.{◌≡◌, rules, map, Ok, refl, sym, ap, ◌∙◌}
use Rattle.std.proofs.lemmas.Result.{err_from_is_err_and}
use Rattle.guard_model.specs.inside.Each.{each}
use Rattle.guard_model.specs.TypeView.{type_view, constraint_view, constraints_of, part_view}
use Rattle.guard_model.proofs.Loops.{stops_at, ends_there}
use Rattle.guard_model.specs.Kinds.{kind_of}
use Rattle.guard_syntax.specs.Trees.{WrittenJoinedIntersection, WrittenJoinedDifference}
use Rattle.guard_syntax.specs.SetViews as views
use Rattle.guard_syntax.specs.declared.tree.ElementForm.{the_lemmas as tree_lemmas}
use Rattle.guard_syntax.specs.Trees as written
use Rattle.guard_syntax.specs.Trees.{united_of, met_of}
use Rattle.guard_constraints.specs.inside.Reading.{read, joined_intersections, joined_differences, read_set, read_set_form, read_intersection, read_difference, read_part}
use Rattle.guard_constraints.specs.declared.joining.Join.TheVariants as join
use Rattle.guard_constraints.specs.inside.Bounds.{is_within}
use Rattle.guard_constraints.specs.Views.{named, visible_in}
use Rattle.guard_constraints.proofs.CodeSteps.PushedReadings.{pushes}
use Rattle.guard_constraints.proofs.CodeSteps.KeptTrees.{joined_intersection_is, joined_difference_is}
use Rattle.guard_constraints.proofs.CodeSteps.JoinedConstraints.{union_steps, intersection_steps, joined_refused, joined_made, parts_checked, parts_refused, parts_made}
use Rattle.guard_constraints.proofs.CodeSteps.NotedBounds.{weaker_in_all, pushed_within, joined_bounds, except_bounds}
use Rattle.guard_constraints.proofs.written.+sets.Goals as goal

-- ---- unions

pub set-returns-in_err-others-in-Union-clause-given : goal.set-returns-in_err-others-in-Union-clause-given
unfolding read
set-returns-in_err-others-in-Union-clause-given t c =
    let names = visible_in c.args.scope in
    let ty = type_view c.args.ty.now in
    let first = views.intersection_view c.in-Union.first.value in
    let site = views.site_of_intersection first in
    let others = map views.joined_intersection_view c.in-Union.others.items in
    let one = constraint_view c.in_ok-first-in-Union.first in
    let e : read_set names ty (views.set_view c.args.tree.now) ≡ read_set_form names ty site (written.union first (united_of others)) = search (rules, tree_lemmas) in
    let steps = union_steps names ty site first others one (rw c.deref.ensures at c.in_ok-first-in-Union.ensures.given) in
    let p = err_from_is_err_and c.from_residual-in_err-others-in-Union.result c.from_residual-in_err-others-in-Union.ensures.1 in
    rw (p.1, p.2, e, steps) (joined_refused join.Union site one (named c.in_err-others-in-Union.field-0.0) (joined_intersections names ty others)
    (rw c.deref-in-Union.ensures.value at c.in_err-others-in-Union.ensures.given))

pub set-returns-in_ok-joined-in-Union-clause-given : goal.set-returns-in_ok-joined-in-Union-clause-given
unfolding read
set-returns-in_ok-joined-in-Union-clause-given t c =
    let names = visible_in c.args.scope in
    let ty = type_view c.args.ty.now in
    let first = views.intersection_view c.in-Union.first.value in
    let site = views.site_of_intersection first in
    let others = map views.joined_intersection_view c.in-Union.others.items in
    let one = constraint_view c.in_ok-first-in-Union.first in
    let e : read_set names ty (views.set_view c.args.tree.now) ≡ read_set_form names ty site (written.union first (united_of others)) = search (rules, tree_lemmas) in
    let steps = union_steps names ty site first others one (rw c.deref.ensures at c.in_ok-first-in-Union.ensures.given) in
    let w : views.set_view c.args.tree.now ≡ written.set_node site (written.union first (united_of others)) = search (rules, tree_lemmas) in
    let s : c.site.result ≡ site = rw (c.site.ensures, w) refl in
    rw (e, steps) (joined_made join.Union site one (joined_intersections names ty others) (map constraint_view c.in_ok-others-in-Union.others.items)
    (rw c.deref-in-Union.ensures.value at c.in_ok-others-in-Union.ensures.given) ∙ ap Ok (sym (rw s at c.in_ok-joined-in-Union.ensures)))

pub set-returns-in_ok-joined-in-Union-clause-bounds : goal.set-returns-in_ok-joined-in-Union-clause-bounds
set-returns-in_ok-joined-in-Union-clause-bounds t c =
    rw c.in_ok-joined-in-Union.ensures (joined_bounds c.intersection.new.noted.bound c.united.new.noted.bound (type_view c.args.ty.now) c.in_ok-others-in-Union.ensures.grows
    (constraint_view c.in_ok-first-in-Union.first) c.in_ok-first-in-Union.ensures.bounds join.Union c.site.result (constraints_of (map constraint_view c.in_ok-others-in-Union.others.items)) c.in_ok-others-in-Union.ensures.bounds)

pub united-loop-other-preserved : goal.united-loop-other-preserved
united-loop-other-preserved t c =
    let step = λ (j : WrittenJoinedIntersection). read_intersection (visible_in c.args.scope) (type_view c.args.ty.now) j.joined in
    let total = joined_intersections (visible_in c.args.scope) (type_view c.args.ty.now) (map views.joined_intersection_view c.args.others.now) in
    record {
      so_far =
          pushes step views.joined_intersection_view constraint_view c.loop-other.all.items c.args.others.now c.loop-other.other-index total c.loop-other.invariant.so_far
          c.other-item.result c.loop-other-test.true c.other-item.is c.in_ok-intersection.field-0 _ c.in_ok-push.ensures.items
          (rw (joined_intersection_is c.other-item.result) c.in_ok-intersection.ensures.given);
      agreed = c.in_ok-intersection.ensures.agreed;
      grows = λ kind v h. c.in_ok-intersection.ensures.grows kind v (c.loop-other.invariant.grows kind v h);
      bounds =
          let test = is_within c.intersection.new.noted.bound (kind_of (type_view c.args.ty.now)) in
          let before = weaker_in_all (is_within c.loop-other.noted.bound (kind_of (type_view c.args.ty.now))) test (c.in_ok-intersection.ensures.grows (kind_of (type_view c.args.ty.now)))
          (constraints_of (map constraint_view c.loop-other.all.items)) c.loop-other.invariant.bounds in
          rw c.in_ok-push.ensures.items (pushed_within test c.loop-other.all.items c.in_ok-intersection.field-0 before c.in_ok-intersection.ensures.bounds);
    }

pub united-returns-in_err-intersection-clause-given : goal.united-returns-in_err-intersection-clause-given
united-returns-in_err-intersection-clause-given t c =
    let step = λ (j : WrittenJoinedIntersection). read_intersection (visible_in c.args.scope) (type_view c.args.ty.now) j.joined in
    let total = joined_intersections (visible_in c.args.scope) (type_view c.args.ty.now) (map views.joined_intersection_view c.args.others.now) in
    let p = err_from_is_err_and c.from_residual.result c.from_residual.ensures.1 in
    rw (p.1, p.2) (stops_at step views.joined_intersection_view (map constraint_view c.loop-other.all.items) c.args.others.now c.loop-other.other-index total c.loop-other.invariant.so_far
    c.other-item.result c.other-item.result c.loop-other-test.true c.other-item.is (named c.in_err-intersection.field-0.0)
    (rw (joined_intersection_is c.other-item.result) c.in_err-intersection.ensures.given))

pub united-returns-clause-given : goal.united-returns-clause-given
united-returns-clause-given t c =
    let step = λ (j : WrittenJoinedIntersection). read_intersection (visible_in c.args.scope) (type_view c.args.ty.now) j.joined in
    let total = joined_intersections (visible_in c.args.scope) (type_view c.args.ty.now) (map views.joined_intersection_view c.args.others.now) in
    ends_there step views.joined_intersection_view (map constraint_view c.loop-other.all.items) c.args.others.now c.loop-other.other-index total c.loop-other.invariant.so_far c.loop-other-test.false

-- ---- intersections

pub intersection-returns-in_err-others-in-Differences-clause-given : goal.intersection-returns-in_err-others-in-Differences-clause-given
intersection-returns-in_err-others-in-Differences-clause-given t c =
    let names = visible_in c.args.scope in
    let ty = type_view c.args.ty.now in
    let first = views.difference_view c.in-Differences.first.value in
    let site = views.site_of_difference first in
    let others = map views.joined_difference_view c.in-Differences.others.items in
    let one = constraint_view c.in_ok-first-in-Differences.first in
    let e : views.intersection_view c.args.tree.now ≡ written.intersection site first (met_of others) = search (rules, tree_lemmas) in
    let steps = intersection_steps names ty site first others one (rw c.deref.ensures at c.in_ok-first-in-Differences.ensures.given) in
    let p = err_from_is_err_and c.from_residual-in_err-others-in-Differences.result c.from_residual-in_err-others-in-Differences.ensures.1 in
    rw (p.1, p.2, e, steps) (joined_refused join.Intersection site one (named c.in_err-others-in-Differences.field-0.0) (joined_differences names ty others)
    (rw c.deref-in-Differences.ensures.value at c.in_err-others-in-Differences.ensures.given))

pub intersection-returns-in_ok-joined-in-Differences-clause-given : goal.intersection-returns-in_ok-joined-in-Differences-clause-given
intersection-returns-in_ok-joined-in-Differences-clause-given t c =
    let names = visible_in c.args.scope in
    let ty = type_view c.args.ty.now in
    let first = views.difference_view c.in-Differences.first.value in
    let site = views.site_of_difference first in
    let others = map views.joined_difference_view c.in-Differences.others.items in
    let one = constraint_view c.in_ok-first-in-Differences.first in
    let e : views.intersection_view c.args.tree.now ≡ written.intersection site first (met_of others) = search (rules, tree_lemmas) in
    let steps = intersection_steps names ty site first others one (rw c.deref.ensures at c.in_ok-first-in-Differences.ensures.given) in
    let s : c.site.result ≡ site = rw (c.site.ensures, e) refl in
    rw (e, steps) (joined_made join.Intersection site one (joined_differences names ty others) (map constraint_view c.in_ok-others-in-Differences.others.items)
    (rw c.deref-in-Differences.ensures.value at c.in_ok-others-in-Differences.ensures.given) ∙ ap Ok (sym (rw s at c.in_ok-joined-in-Differences.ensures)))

pub intersection-returns-in_ok-joined-in-Differences-clause-bounds : goal.intersection-returns-in_ok-joined-in-Differences-clause-bounds
intersection-returns-in_ok-joined-in-Differences-clause-bounds t c =
    rw c.in_ok-joined-in-Differences.ensures (joined_bounds c.difference.new.noted.bound c.met.new.noted.bound (type_view c.args.ty.now) c.in_ok-others-in-Differences.ensures.grows
    (constraint_view c.in_ok-first-in-Differences.first) c.in_ok-first-in-Differences.ensures.bounds join.Intersection c.site.result (constraints_of (map constraint_view c.in_ok-others-in-Differences.others.items)) c.in_ok-others-in-Differences.ensures.bounds)

pub met-loop-other-preserved : goal.met-loop-other-preserved
met-loop-other-preserved t c =
    let step = λ (j : WrittenJoinedDifference). read_difference (visible_in c.args.scope) (type_view c.args.ty.now) j.joined in
    let total = joined_differences (visible_in c.args.scope) (type_view c.args.ty.now) (map views.joined_difference_view c.args.others.now) in
    record {
      so_far =
          pushes step views.joined_difference_view constraint_view c.loop-other.all.items c.args.others.now c.loop-other.other-index total c.loop-other.invariant.so_far
          c.other-item.result c.loop-other-test.true c.other-item.is c.in_ok-difference.field-0 _ c.in_ok-push.ensures.items
          (rw (joined_difference_is c.other-item.result) c.in_ok-difference.ensures.given);
      agreed = c.in_ok-difference.ensures.agreed;
      grows = λ kind v h. c.in_ok-difference.ensures.grows kind v (c.loop-other.invariant.grows kind v h);
      bounds =
          let test = is_within c.difference.new.noted.bound (kind_of (type_view c.args.ty.now)) in
          let before = weaker_in_all (is_within c.loop-other.noted.bound (kind_of (type_view c.args.ty.now))) test (c.in_ok-difference.ensures.grows (kind_of (type_view c.args.ty.now)))
          (constraints_of (map constraint_view c.loop-other.all.items)) c.loop-other.invariant.bounds in
          rw c.in_ok-push.ensures.items (pushed_within test c.loop-other.all.items c.in_ok-difference.field-0 before c.in_ok-difference.ensures.bounds);
    }

pub met-returns-in_err-difference-clause-given : goal.met-returns-in_err-difference-clause-given
met-returns-in_err-difference-clause-given t c =
    let step = λ (j : WrittenJoinedDifference). read_difference (visible_in c.args.scope) (type_view c.args.ty.now) j.joined in
    let total = joined_differences (visible_in c.args.scope) (type_view c.args.ty.now) (map views.joined_difference_view c.args.others.now) in
    let p = err_from_is_err_and c.from_residual.result c.from_residual.ensures.1 in
    rw (p.1, p.2) (stops_at step views.joined_difference_view (map constraint_view c.loop-other.all.items) c.args.others.now c.loop-other.other-index total c.loop-other.invariant.so_far
    c.other-item.result c.other-item.result c.loop-other-test.true c.other-item.is (named c.in_err-difference.field-0.0)
    (rw (joined_difference_is c.other-item.result) c.in_err-difference.ensures.given))

pub met-returns-clause-given : goal.met-returns-clause-given
met-returns-clause-given t c =
    let step = λ (j : WrittenJoinedDifference). read_difference (visible_in c.args.scope) (type_view c.args.ty.now) j.joined in
    let total = joined_differences (visible_in c.args.scope) (type_view c.args.ty.now) (map views.joined_difference_view c.args.others.now) in
    ends_there step views.joined_difference_view (map constraint_view c.loop-other.all.items) c.args.others.now c.loop-other.other-index total c.loop-other.invariant.so_far c.loop-other-test.false

-- ---- differences

pub difference-returns-in_ok-except-in-Some-clause-bounds : goal.difference-returns-in_ok-except-in-Some-clause-bounds
difference-returns-in_ok-except-in-Some-clause-bounds t c =
    rw c.in_ok-except-in-Some.ensures (except_bounds c.element.new.noted.bound c.element-in-Some.new.noted.bound (type_view c.args.ty.now) c.in_ok-less-in-Some.ensures.grows
    (constraint_view c.in_ok-all.all) c.in_ok-all.ensures.bounds (constraint_view c.in_ok-less-in-Some.less) c.in_ok-less-in-Some.ensures.bounds)

-- ---- WITH COMPONENTS

pub parts-returns-in_err-check_parts : goal.parts-returns-in_err-check_parts
parts-returns-in_err-check_parts t c =
    let p = err_from_is_err_and c.from_residual.result c.from_residual.ensures.1 in
    rw (p.1, p.2) (parts_checked (visible_in c.args.scope) (type_view c.args.ty.now) c.args.site c.args.partial c.args.listed.now (named c.in_err-check_parts.field-0.0) c.in_err-check_parts.ensures)

pub parts-returns-in_err-parts : goal.parts-returns-in_err-parts
parts-returns-in_err-parts t c =
    let p = err_from_is_err_and c.from_residual-in_err-parts.result c.from_residual-in_err-parts.ensures.1 in
    rw (p.1, p.2) (parts_refused (visible_in c.args.scope) (type_view c.args.ty.now) c.args.site c.args.partial c.args.listed.now (named c.in_err-parts.field-0.0) c.in_ok-check_parts.ensures c.in_err-parts.ensures)

pub parts-returns : goal.parts-returns
parts-returns t c =
    let e = parts_made (visible_in c.args.scope) (type_view c.args.ty.now) c.args.site c.args.partial c.args.listed.now (map part_view c.in_ok-parts.parts.items) c.in_ok-check_parts.ensures c.in_ok-parts.ensures in
    rw (e, c.in_ok-with_components.ensures) refl

pub each_part-loop-one-preserved : goal.each_part-loop-one-preserved
each_part-loop-one-preserved t c =
    let step = read_part (visible_in c.args.scope) (kind_of (type_view c.args.ty.now)) in
    let total = each step (map views.part_view c.args.listed.now) in
    pushes step views.part_view part_view c.loop-one.parts.items c.args.listed.now c.loop-one.one-index total c.loop-one.invariant
    c.one-item.result c.loop-one-test.true c.one-item.is c.in_ok-part.field-0 _ c.in_ok-push.ensures.items c.in_ok-part.ensures

pub each_part-returns-in_err-part : goal.each_part-returns-in_err-part
each_part-returns-in_err-part t c =
    let step = read_part (visible_in c.args.scope) (kind_of (type_view c.args.ty.now)) in
    let total = each step (map views.part_view c.args.listed.now) in
    let p = err_from_is_err_and c.from_residual-in_err-part.result c.from_residual-in_err-part.ensures.1 in
    rw (p.1, p.2) (stops_at step views.part_view (map part_view c.loop-one.parts.items) c.args.listed.now c.loop-one.one-index total c.loop-one.invariant
    c.one-item.result c.one-item.result c.loop-one-test.true c.one-item.is (named c.in_err-part.field-0.0) c.in_err-part.ensures)

pub each_part-returns : goal.each_part-returns
each_part-returns t c =
    let step = read_part (visible_in c.args.scope) (kind_of (type_view c.args.ty.now)) in
    ends_there step views.part_view (map part_view c.loop-one.parts.items) c.args.listed.now c.loop-one.one-index (each step (map views.part_view c.args.listed.now)) c.loop-one.invariant c.loop-one-test.false
