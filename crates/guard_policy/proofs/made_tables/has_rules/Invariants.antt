use Rattle.std.proofs.Common.{◌≡◌, take}
use Rattle.guard_tables.specs.TableView.{rules_of}
use Rattle.guard_tables.specs.Tables.{types_view}
use Rattle.guard_policy.proofs.made_tables.has_rules.Given as goal

abbrev pub invariant-loop-place : goal.invariant-loop-place
invariant-loop-place l = take l.place (rules_of l.table) ≡ types_view (take l.place l.types)
