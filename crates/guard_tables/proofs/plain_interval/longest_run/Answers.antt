use Rattle.std.proofs.Common.{rules, ℤ, map, subst, inl, inr}
use mir.Syntax.{w128}
use mir.Val.{SFits}
use Rattle.guard_model.specs.NamedLists.{named_view}
use Rattle.guard_tables.specs.declared.plain_interval.Interval.{Interval}
use Rattle.guard_tables.specs.NodeViews.{condition_view}
use Rattle.guard_tables.specs.inside.Intervals.{IsWithin, IsItemPassed}
use Rattle.guard_tables.proofs.PlainIntervals.{found_item}
use Rattle.guard_tables.proofs.plain_interval.longest_run.Goals as goal
use Rattle.guard_tables.proofs.plain_interval.longest_run.Goals.{then-width, else-width}

pub loop-item-preserved : goal.loop-item-preserved
loop-item-preserved c =
    let cs = map condition_view c.args.conditions.now in
    let item = c.item-item.result in
    let fits : SFits w128 item.number = search rules in
    let run : (z : ℤ) → IsWithin c.run_with-run.result z → IsItemPassed z (map (λ n. n.number) (map named_view c.args.items.now)) cs =
    λ z h. elim (c.run_with-run.ensures z h) [
      | inl w ↦ c.loop-item.invariant.run z w
      | inr p ↦ found_item c.args.items.now cs c.loop-item.item-index item z c.loop-item-test.true c.item-item.is fits p
    ] in
    record {
      longest = λ z h. elim c.if-width.branch [
        | then-width w ↦ run z (subst (λ (i : Interval). IsWithin i z) w.longest-is h)
        | else-width w ↦ c.loop-item.invariant.longest z (subst (λ (i : Interval). IsWithin i z) w.longest-is h)
      ];
      run = run;
    }
