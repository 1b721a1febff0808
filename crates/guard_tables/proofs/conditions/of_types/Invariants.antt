use Rattle.std.proofs.Common.{◌≡◌, ◌+◌, ◌≤◌, drop}
use Rattle.guard_tables.specs.Conditions.{conditions, counted}
use Rattle.guard_tables.specs.Tables.{types_view}
use Rattle.guard_tables.proofs.conditions.of_types.Given as goal

-- with those that are still to come it is what is counted of all
abbrev pub invariant-loop-ty : goal.invariant-loop-ty
invariant-loop-ty l = record {
  to_come : counted (l.count + conditions (types_view (drop l.ty-index l.types)) l.way) ≡ counted (conditions (types_view l.types) l.way);
  small : l.count ≤ 18446744073709551615;
}
