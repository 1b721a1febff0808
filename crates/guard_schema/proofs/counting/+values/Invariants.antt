use Rattle.std.proofs.Common.{◌≡◌, ◌+◌, ◌≤◌, drop}
use Rattle.std.specs.Prelude.{min}
use Rattle.guard_model.specs.ValueView.{fields_view, items_view}
use Rattle.guard_schema.specs.Counting.{nodes_of_fields, nodes_of_items}
use Rattle.guard_schema.proofs.counting.+values.Given as goal

-- ---- with what is still to come it is what all hold

abbrev pub invariant-nodes_of_fields-loop-field : goal.invariant-nodes_of_fields-loop-field
invariant-nodes_of_fields-loop-field l = record {
  small : l.so_far ≤ 100001;
  to_come : min (l.so_far + nodes_of_fields (fields_view (drop l.field-index l.fields))) 100001
      ≡ min (l.before + nodes_of_fields (fields_view l.fields)) 100001;
}

abbrev pub invariant-nodes_of_items-loop-item : goal.invariant-nodes_of_items-loop-item
invariant-nodes_of_items-loop-item l = record {
  small : l.so_far ≤ 100001;
  to_come : min (l.so_far + nodes_of_items (items_view (drop l.item-index l.items))) 100001
      ≡ min (l.before + nodes_of_items (items_view l.items)) 100001;
}
