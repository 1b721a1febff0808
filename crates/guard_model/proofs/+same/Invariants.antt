use Rattle.std.proofs.Common.{◌≡◌, length, drop}
use Rattle.guard_model.specs.Same.{same_fields, same_items}
use Rattle.guard_model.specs.ValueView.{fields_view, items_view}
use Rattle.guard_model.proofs.+same.Given as goal

abbrev pub invariant-same::are_same_fields-loop-field : goal.invariant-same::are_same_fields-loop-field
invariant-same::are_same_fields-loop-field l = same_fields (fields_view (drop (length l.yielded) l.fields)) (fields_view (drop (length l.yielded) l.others)) ≡ same_fields (fields_view l.fields) (fields_view l.others)

abbrev pub invariant-same::are_same_items-loop-item : goal.invariant-same::are_same_items-loop-item
invariant-same::are_same_items-loop-item l = same_items (items_view (drop (length l.yielded) l.items)) (items_view (drop (length l.yielded) l.others)) ≡ same_items (items_view l.items) (items_view l.others)
