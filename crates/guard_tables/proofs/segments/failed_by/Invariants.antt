use Rattle.std.proofs.Common.{◌≡◌, Some, map, drop}
use Rattle.guard_tables.specs.declared.slots.Slots.{Slots}
use Rattle.guard_tables.specs.Marking.{Facts, conditions_marked, are_on_numbers}
use Rattle.guard_tables.specs.NodeViews.{condition_view}
use Rattle.guard_tables.specs.Slots.{added}
use Rattle.guard_tables.proofs.segments.failed_by.Given as goal

-- what fails so far, then what of those to come
abbrev pub invariant-loop-condition : goal.invariant-loop-condition
invariant-loop-condition l = record {
  numbers : are_on_numbers (map condition_view (drop l.condition-index l.conditions)) ≡ are_on_numbers (map condition_view l.conditions);
  so_far : (f : Facts) (m : Slots) → f.number ≡ Some l.number
      → conditions_marked (map condition_view (drop l.condition-index l.conditions)) f (added m l.failed) ≡ conditions_marked (map condition_view l.conditions) f m;
}
