use Rattle.std.proofs.Common.{◌≡◌, drop}
use Rattle.guard_model.specs.TypeView.{type_view}
use Rattle.guard_tables.specs.Tables.{types_view, first_mismatch}
use Rattle.guard_tables.proofs.table.first_mismatch.Given as goal

-- the first of what is left is the first of all
abbrev pub invariant-loop-place : goal.invariant-loop-place
invariant-loop-place l = first_mismatch (type_view l.declared) l.place (types_view (drop l.place l.rules)) ≡ first_mismatch (type_view l.declared) 0 (types_view l.rules)
