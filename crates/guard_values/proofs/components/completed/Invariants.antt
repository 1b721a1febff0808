use Rattle.std.proofs.Common.{◌≡◌, length, map, take, drop}
use Rattle.guard_model.specs.ValueView.{slot_view, fields_view}
use Rattle.guard_values.specs.inside.Reading.{completed}
use Rattle.guard_values.proofs.Braces.CodeFields.{with_front}
use Rattle.guard_values.proofs.components.completed.Given as goal
use Rattle.guard_model.proofs.Components.{left}

abbrev pub invariant-loop-index : goal.invariant-loop-index
invariant-loop-index l = record {
  so_far : with_front (map slot_view (take l.index l.fields.items)) (completed l.site (left l.comps l.index) (fields_view (drop l.index l.fields.items))) ≡ completed l.site (left l.comps 0) (fields_view l.fn.fields.items);
  count : length l.fields.items ≡ length l.comps;
}
