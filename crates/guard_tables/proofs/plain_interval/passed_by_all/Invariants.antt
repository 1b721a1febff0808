use Rattle.std.proofs.Common.{ℤ, map, drop}
use Rattle.guard_tables.specs.NodeViews.{condition_view}
use Rattle.guard_tables.specs.inside.Intervals.{IsWithin, PassesAll}
use Rattle.guard_tables.proofs.plain_interval.passed_by_all.Given as goal

-- what passes those to come passes all
abbrev pub invariant-loop-condition : goal.invariant-loop-condition
invariant-loop-condition l =
    (z : ℤ) → IsWithin l.passed z → PassesAll z (map condition_view (drop l.condition-index l.conditions))
    → PassesAll z (map condition_view l.conditions)
