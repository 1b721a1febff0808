use Rattle.std.proofs.Common.{◌≡◌, drop}
use Rattle.std.specs.Prelude.{IsTrue}
use Rattle.guard_model.specs.TypeView.{type_view}
use Rattle.guard_model.specs.ValueView.{items_view}
use Rattle.guard_der.specs.Der.{der, item_encodings}
use Rattle.guard_der.specs.Fits.{fits, every_fits, are_ascending}
use Rattle.guard_der.proofs.Functions.Ascending.{ascend_behind}
use Rattle.guard_der.proofs.fitting.ascending.are_ascending.Given as goal

abbrev pub invariant-loop-item : goal.invariant-loop-item
invariant-loop-item l = record {
  so_far : ascend_behind l.before.items (item_encodings (der (type_view l.ty)) (items_view (drop l.item-index l.items))) ≡ are_ascending (item_encodings (der (type_view l.ty)) (items_view l.items));
  fit : IsTrue (every_fits (fits (type_view l.ty)) (items_view (drop l.item-index l.items)));
}
