use Rattle.std.proofs.Common.{ℤ, map}
use Rattle.guard_model.specs.NamedLists.{named_view}
use Rattle.guard_tables.specs.NodeViews.{condition_view}
use Rattle.guard_tables.specs.inside.Intervals.{IsWithin, IsItemPassed}
use Rattle.guard_tables.proofs.plain_interval.longest_run.Given as goal

abbrev pub invariant-loop-item : goal.invariant-loop-item
invariant-loop-item l = record {
  longest : (z : ℤ) → IsWithin l.longest z → IsItemPassed z (map (λ n. n.number) (map named_view l.items)) (map condition_view l.conditions);
  run : (z : ℤ) → IsWithin l.run z → IsItemPassed z (map (λ n. n.number) (map named_view l.items)) (map condition_view l.conditions);
}
