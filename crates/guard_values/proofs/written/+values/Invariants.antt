use Rattle.std.proofs.Common.{◌≡◌, ◌-◌, ◌≤◌, map, drop, length, false, true, Some}
use Rattle.guard_model.specs.AbstractType as type
use Rattle.guard_model.specs.AbstractValue as value
use Rattle.guard_model.specs.TypeView.{type_view, component_view, components_of}
use Rattle.guard_model.specs.ValueView.{value_view, fields_view}
use Rattle.guard_model.specs.Slots.{all_absent}
use Rattle.guard_der.specs.Der.{contents_octets}
use Rattle.guard_der.specs.Encoding.{longest_encoding, short_length}
use Rattle.guard_syntax.specs.Trees.{entries_of}
use Rattle.guard_syntax.specs.Views.{entry_view}
use Rattle.guard_values.specs.Arrangement.{AreEncodings, encoded_value}
use Rattle.guard_values.specs.inside.Reading.{build_entries, build_elements}
use Rattle.guard_values.specs.Views.{encoded_view, values_of}
use Rattle.guard_values.proofs.Braces.EntriesInTurn.{with_front}
use Rattle.guard_values.proofs.Counting.CountedLists.{items_joined}
use Rattle.guard_values.proofs.written.+values.Given as goal

abbrev pub invariant-entry_fields-loop-entry : goal.invariant-entry_fields-loop-entry
invariant-entry_fields-loop-entry l = record {
  count : length l.fields.items ≡ length l.comps;
  so_far : build_entries (values_of l.scope) l.sorted l.ordered (components_of (map component_view l.comps)) l.next (fields_view l.fields.items) (entries_of (map entry_view (drop l.entry-index l.entries)))
      ≡ build_entries (values_of l.scope) l.sorted l.ordered (components_of (map component_view l.comps)) 0 (all_absent (components_of (map component_view l.comps))) (entries_of (map entry_view l.entries));
  counted : l.sorted ≡ true → l.length ≡ short_length (contents_octets (type.sequence (components_of (map component_view l.comps))) (value.fields (fields_view l.fields.items)));
}

abbrev pub invariant-elements-loop-entry : goal.invariant-elements-loop-entry
invariant-elements-loop-entry l = record {
  so_far : with_front (map value_view l.elements.items) (build_elements (values_of l.scope) l.sorted false (type_view l.ty) l.room (entries_of (map entry_view (drop l.entry-index l.entries))))
      ≡ build_elements (values_of l.scope) l.sorted false (type_view l.ty) longest_encoding (entries_of (map entry_view l.entries));
  low : l.room ≤ longest_encoding;
  counted : l.sorted ≡ true → short_length (items_joined (type_view l.ty) (map value_view l.elements.items)) ≡ Some (longest_encoding - l.room);
}

abbrev pub invariant-encoded_elements-loop-entry : goal.invariant-encoded_elements-loop-entry
invariant-encoded_elements-loop-entry l = record {
  encodings : AreEncodings (type_view l.ty) (map encoded_view l.elements.items);
  so_far : with_front (map encoded_value (map encoded_view l.elements.items)) (build_elements (values_of l.scope) true true (type_view l.ty) l.room (entries_of (map entry_view (drop l.entry-index l.entries))))
      ≡ build_elements (values_of l.scope) true true (type_view l.ty) longest_encoding (entries_of (map entry_view l.entries));
  low : l.room ≤ longest_encoding;
  counted : short_length (items_joined (type_view l.ty) (map encoded_value (map encoded_view l.elements.items))) ≡ Some (longest_encoding - l.room);
}
