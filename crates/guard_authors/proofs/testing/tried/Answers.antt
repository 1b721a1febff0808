use Rattle.std.proofs.Common.{◌≤◌, ◌+◌, ℕ, List, arith, subst, sym}
use Rattle.std.proofs.lemmas.List.{drop_all}
use Rattle.toml.specs.View.{items_view}
use Rattle.toml.specs.declared.value.Value.{Value}
use Rattle.guard_files.specs.Reading.{loaded_view}
use Rattle.guard_authors.specs.Cases.{case_view}
use Rattle.guard_authors.specs.Testing.{case_result_view}
use Rattle.guard_authors.proofs.TriedCases.{Continues, all_tried, few, none_tried, one_tried}
use Rattle.guard_authors.proofs.testing.tried.Goals as goal

pub loop-place-init : goal.loop-place-init
loop-place-init c = record {
  few = omega arith;
  so_far = rw (c.new-lines.ensures.items, c.new-reached.ensures.items) (none_tried (loaded_view c.args.loaded.now) (items_view c.args.items.now));
}

pub overflow_add-failed : goal.overflow_add-failed
overflow_add-failed c =
    let added = rw c.deref.ensures.value at c.in_ok-failed.ensures.failures in
    let small : c.in_ok-failed.field-0 ≤ 1 = subst (λ (n : ℕ). n ≤ 1) (sym added) (few (case_view c.case_in-case.result) c.in_ok-came.came.text.items) in
    omega (arith, small, c.loop-place.invariant.few, c.loop-place-test.true)

pub loop-place-preserved : goal.loop-place-preserved
loop-place-preserved c =
    let p = loaded_view c.args.loaded.now in
    let items = c.args.items.now in
    let i = c.loop-place.place in
    let x : Value = c.index-items-place.result in
    let k = case_view c.case_in-case.result in
    let came = case_result_view c.in_ok-came.came in
    let line = rw c.deref.ensures.value at c.in_ok-failed.ensures.line in
    let added = rw c.deref.ensures.value at c.in_ok-failed.ensures.failures in
    let more = rw c.deref-in-loop-place.ensures.value at c.in_ok-extend_from_slice.ensures.items in
    let small : c.in_ok-failed.field-0 ≤ 1 = subst (λ (n : ℕ). n ≤ 1) (sym added) (few k came.text) in
    record {
      few = omega (arith, small, c.loop-place.invariant.few);
      so_far = rw (line, added, more) (one_tried p (items_view items) items i x k came c.loop-place.lines.items c.loop-place.failed c.loop-place.reached.items
          c.loop-place-test.true c.index-items-place.is c.case_in-case.ensures c.in_ok-came.ensures c.loop-place.invariant.so_far);
    }

pub returns : goal.returns
returns c =
    let p = loaded_view c.args.loaded.now in
    let items = c.args.items.now in
    all_tried p (c.loop-place.place + 1) (items_view items) c.loop-place.lines.items c.loop-place.failed c.loop-place.reached.items
    (subst (λ (left : List Value). Continues p (c.loop-place.place + 1) (items_view left) c.loop-place.lines.items c.loop-place.failed c.loop-place.reached.items (items_view items))
    (drop_all c.loop-place.place items c.loop-place-test.false) c.loop-place.invariant.so_far)
