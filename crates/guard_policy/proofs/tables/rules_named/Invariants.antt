use Rattle.std.proofs.Common.{◌≡◌, ◌++◌, map, drop}
use Rattle.guard_policy.specs.SaidView.{said_view}
use Rattle.guard_policy.specs.inside.Numbers.{picked}
use Rattle.guard_policy.specs.inside.Said.{rules_view}
use Rattle.guard_policy.proofs.tables.rules_named.Given as goal

abbrev pub invariant-loop-number : goal.invariant-loop-number
invariant-loop-number l = rules_view l.named.items ++ picked (map said_view l.rules) (drop l.number-index l.number-items) ≡ picked (map said_view l.rules) l.number-items
