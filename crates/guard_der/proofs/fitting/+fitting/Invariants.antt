use Rattle.std.proofs.Common.{◌≡◌, drop}
use Rattle.guard_model.specs.TypeView.{type_view}
use Rattle.guard_model.specs.ValueView.{fields_view, items_view}
use Rattle.guard_der.specs.Fits.{fits, fits_fields, every_fits}
use Rattle.guard_der.proofs.fitting.+fitting.Given as goal
use Rattle.guard_model.proofs.Components.{left}

abbrev pub invariant-fields_fit-loop-index : goal.invariant-fields_fit-loop-index
invariant-fields_fit-loop-index l = fits_fields (left l.comps l.index) (fields_view (drop l.index l.fields)) ≡ fits_fields (left l.comps 0) (fields_view l.fields)

abbrev pub invariant-all_fit-loop-item : goal.invariant-all_fit-loop-item
invariant-all_fit-loop-item l = every_fits (fits (type_view l.ty)) (items_view (drop l.item-index l.items)) ≡ every_fits (fits (type_view l.ty)) (items_view l.items)
