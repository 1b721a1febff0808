use Rattle.std.proofs.Common.{◌≡◌, ◌++◌, drop, Some}
use Rattle.std.specs.Prelude.{IsTrue}
use Rattle.guard_model.specs.TypeView.{type_view}
use Rattle.guard_model.specs.ValueView.{fields_view, items_view}
use Rattle.guard_der.specs.Der.{der, parts_of, item_encodings, joined, ◌>>=◌}
use Rattle.guard_der.specs.Fits.{fits, fits_fields, every_fits}
use Rattle.guard_der.proofs.encoding.values.+encoding.Given as goal
use Rattle.guard_model.proofs.Components.{left}
use Rattle.guard_der.specs.inside.EncodingSteps.{parts_view, with_parts, all_joined}

abbrev pub invariant-parts-loop-index : goal.invariant-parts-loop-index
invariant-parts-loop-index l = record {
  so_far : with_parts (parts_view l.parts.items) (parts_of (left l.comps l.index) (fields_view (drop l.index l.fields))) ≡ parts_of (left l.comps 0) (fields_view l.fields);
  fit : IsTrue (fits_fields (left l.comps l.index) (fields_view (drop l.index l.fields)));
}

abbrev pub invariant-elements-loop-item : goal.invariant-elements-loop-item
invariant-elements-loop-item l = record {
  so_far : (item_encodings (der (type_view l.ty)) (items_view (drop l.item-index l.items)) >>= λ es. Some (l.out.items ++ joined es)) ≡ all_joined (item_encodings (der (type_view l.ty)) (items_view l.items));
  fit : IsTrue (every_fits (fits (type_view l.ty)) (items_view (drop l.item-index l.items)));
}
