use Rattle.std.proofs.Common.{◌≡◌, ◌++◌, map, drop}
use Rattle.guard_tables.specs.Tables.{types_view}
use Rattle.guard_policy.specs.inside.Said.{rules_view}
use Rattle.guard_policy.proofs.tables.types_of.Given as goal

abbrev pub invariant-loop-rule : goal.invariant-loop-rule
invariant-loop-rule l = types_view l.types.items ++ map (λ r. r.ty) (rules_view (drop l.rule-index l.rules)) ≡ map (λ r. r.ty) (rules_view l.rules)
