use Rattle.std.proofs.Common.{ℤ, map, drop}
use Rattle.std.specs.Prelude.{◌≤ℤ◌}
use Rattle.guard_tables.specs.NodeViews.{condition_view}
use Rattle.guard_tables.specs.Segments.{FailsAlike}
use Rattle.guard_tables.proofs.segments.are_steady.Given as goal

-- where those to come fail alike all do
abbrev pub invariant-loop-condition : goal.invariant-loop-condition
invariant-loop-condition l =
    (z : ℤ) → l.first ≤ℤ z → z ≤ℤ l.last → FailsAlike (map condition_view (drop l.condition-index l.conditions)) z l.first
    → FailsAlike (map condition_view l.conditions) z l.first
