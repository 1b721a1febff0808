use Rattle.std.proofs.Common.{◌≡◌, map, take}
use Rattle.guard_model.specs.TypeView.{type_view}
use Rattle.guard_tables.specs.Tables.{types_view}
use Rattle.guard_tables.proofs.table.copy_of_types.Given as goal

abbrev pub invariant-loop-ty : goal.invariant-loop-ty
invariant-loop-ty l = map type_view l.copy.items ≡ types_view (take l.ty-index l.types)
