use Rattle.std.proofs.Common.{◌≡◌, ◌≤◌, drop}
use Rattle.std.specs.Prelude.{IsTrue}
use Rattle.guard_model.specs.TypeView.{type_view}
use Rattle.guard_model.specs.ValueView.{fields_view, items_view}
use Rattle.guard_model.proofs.Components.{left}
use Rattle.guard_der.specs.Der.{der, item_encodings}
use Rattle.guard_der.specs.Encoding.{longest_encoding, short_length}
use Rattle.guard_der.specs.Fits.{fits, fits_fields, every_fits}
use Rattle.guard_der.specs.inside.EncodingSteps.{all_joined, sequence_octets}
use Rattle.guard_der.specs.inside.Lengths.{short_after}
use Rattle.guard_der.proofs.Functions.Encoding.{others}
use Rattle.guard_der.proofs.lengths.+lengths.Given as goal

abbrev pub invariant-parts_length-loop-index : goal.invariant-parts_length-loop-index
invariant-parts_length-loop-index l = record {
  so_far : short_after l.so_far (sequence_octets (others l.comps l.fields l.index)) ≡ short_length (sequence_octets (others l.comps l.fields 0));
  fit : IsTrue (fits_fields (left l.comps l.index) (fields_view (drop l.index l.fields)));
  low : l.so_far ≤ longest_encoding;
}

abbrev pub invariant-elements_length-loop-item : goal.invariant-elements_length-loop-item
invariant-elements_length-loop-item l = record {
  so_far : short_after l.so_far (all_joined (item_encodings (der (type_view l.ty)) (items_view (drop l.item-index l.items)))) ≡ short_length (all_joined (item_encodings (der (type_view l.ty)) (items_view l.items)));
  fit : IsTrue (every_fits (fits (type_view l.ty)) (items_view (drop l.item-index l.items)));
  low : l.so_far ≤ longest_encoding;
}
