use Rattle.std.proofs.Common.{◌≡◌, map, drop}
use Rattle.std.specs.Slice.Iter.{iter_rest}
use Rattle.std.specs.Iterator.Adapters.{zip_first, zip_second, enumerate_source, enumerate_count}
use Rattle.guard_model.specs.TypeView.{type_view, kind_view, component_view, constraint_view, part_view, components_of, constraints_of, parts_of}
use Rattle.guard_model.specs.ValueView.{value_view, fields_view, items_view}
use Rattle.guard_eval.specs.inside.Failures.{failure, failure_from, failure_among, failure_by, first_failure, some_allows, first_part_failure}
use Rattle.guard_eval.proofs.search.+search.Given as goal

-- ---- the first failure is among what is left

abbrev pub invariant-failure_from-loop-index : goal.invariant-failure_from-loop-index
invariant-failure_from-loop-index l =
    let cs = iter_rest (zip_first (enumerate_source l.index-iterator)) in
    let fs = iter_rest (zip_second (enumerate_source l.index-iterator)) in
    record {
      can_next : (goal.iterator-failure_from-loop-index).can_next l.index-iterator;
      is_finite : (goal.iterator-failure_from-loop-index).is_finite l.index-iterator;
      left : failure_from (enumerate_count l.index-iterator) (components_of (map component_view cs)) (fields_view fs) ≡ failure_from 0 (components_of (map component_view l.comps)) (fields_view l.fields);
    }

abbrev pub invariant-failure_of_items-loop-index : goal.invariant-failure_of_items-loop-index
invariant-failure_of_items-loop-index l =
    failure_among (failure (type_view l.ty)) l.index (items_view (drop l.index l.items)) ≡ failure_among (failure (type_view l.ty)) 0 (items_view l.items)

abbrev pub invariant-failure_among-loop-index : goal.invariant-failure_among-loop-index
invariant-failure_among-loop-index l =
    failure_among (failure_by (constraint_view l.each) (kind_view l.kind)) l.index (items_view (drop l.index l.items))
    ≡ failure_among (failure_by (constraint_view l.each) (kind_view l.kind)) 0 (items_view l.items)

abbrev pub invariant-first_failure-loop-one : goal.invariant-first_failure-loop-one
invariant-first_failure-loop-one l =
    first_failure (constraints_of (map constraint_view (drop l.one-index l.cons))) (kind_view l.kind) (value_view l.value)
    ≡ first_failure (constraints_of (map constraint_view l.cons)) (kind_view l.kind) (value_view l.value)

abbrev pub invariant-some_allows-loop-one : goal.invariant-some_allows-loop-one
invariant-some_allows-loop-one l =
    some_allows (constraints_of (map constraint_view (drop l.one-index l.cons))) (kind_view l.kind) (value_view l.value)
    ≡ some_allows (constraints_of (map constraint_view l.cons)) (kind_view l.kind) (value_view l.value)

abbrev pub invariant-first_part_failure-loop-part : goal.invariant-first_part_failure-loop-part
invariant-first_part_failure-loop-part l =
    first_part_failure (parts_of (map part_view (drop l.part-index l.parts))) l.partial (kind_view l.kind) (value_view l.value)
    ≡ first_part_failure (parts_of (map part_view l.parts)) l.partial (kind_view l.kind) (value_view l.value)
