use Rattle.std.proofs.Common.{◌≡◌, ◌+◌, ◌∷◌, ◌++◌, drop}
use Rattle.guard_model.specs.TypeView.{type_view}
use Rattle.guard_tables.specs.Tables.{types_view}
use Rattle.guard_tables.specs.inside.DemandViews.{slot_demands_view}
use Rattle.guard_tables.specs.inside.Sharing.{demands_by}
use Rattle.guard_tables.proofs.sharing.demands_of.Given as goal

-- with what the types ask that are left it is what all ask
abbrev pub invariant-loop-place : goal.invariant-loop-place
invariant-loop-place l = slot_demands_view l.demands.items ++ demands_by (l.place + 1) (types_view (drop l.place l.others)) (0 ∷ l.places) ≡ demands_by 0 (type_view l.declared ∷ types_view l.others) (0 ∷ l.places)
