use Rattle.std.proofs.Common.{◌≡◌, ◌+◌, drop}
use Rattle.guard_model.specs.TypeView.{type_view}
use Rattle.guard_tables.specs.Tables.{types_view}
use Rattle.guard_tables.specs.inside.Sharing.{place_of}
use Rattle.guard_tables.proofs.sharing.place_among.Given as goal

-- none of those before is the type
abbrev pub invariant-loop-place : goal.invariant-loop-place
invariant-loop-place l = l.place + place_of (types_view (drop l.place l.types)) (type_view l.ty) ≡ place_of (types_view l.types) (type_view l.ty)
