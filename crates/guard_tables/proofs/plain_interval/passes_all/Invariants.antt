use Rattle.std.proofs.Common.{map, drop}
use Rattle.guard_tables.specs.NodeViews.{condition_view}
use Rattle.guard_tables.specs.inside.Intervals.{PassesAll}
use Rattle.guard_tables.proofs.plain_interval.passes_all.Given as goal

-- what passes those to come passes all
abbrev pub invariant-loop-condition : goal.invariant-loop-condition
invariant-loop-condition l =
    PassesAll l.number (map condition_view (drop l.condition-index l.conditions)) → PassesAll l.number (map condition_view l.conditions)
