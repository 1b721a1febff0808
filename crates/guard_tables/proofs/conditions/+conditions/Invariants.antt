use Rattle.std.proofs.Common.{◌≡◌, ◌+◌, ◌≤◌, map, drop}
use Rattle.guard_model.specs.TypeView.{constraint_view, constraints_of, part_view, parts_of}
use Rattle.guard_tables.specs.Conditions.{counted, of_constraints, of_parts}
use Rattle.guard_tables.proofs.conditions.+conditions.Given as goal

-- ---- with what is still to come it is what is counted of all

abbrev pub invariant-of_constraints-loop-constraint : goal.invariant-of_constraints-loop-constraint
invariant-of_constraints-loop-constraint l = record {
  to_come : counted (l.count + of_constraints (constraints_of (map constraint_view (drop l.constraint-index l.constraints))) l.way)
      ≡ counted (of_constraints (constraints_of (map constraint_view l.constraints)) l.way);
  small : l.count ≤ 18446744073709551615;
}

abbrev pub invariant-of_parts-loop-part : goal.invariant-of_parts-loop-part
invariant-of_parts-loop-part l = record {
  to_come : counted (l.count + of_parts (parts_of (map part_view (drop l.part-index l.parts))) l.place l.way)
      ≡ counted (of_parts (parts_of (map part_view l.parts)) l.place l.way);
  small : l.count ≤ 18446744073709551615;
}
