use Rattle.std.proofs.Common.{◌≡◌, ◌-◌, ◌≤◌, drop, length}
use Rattle.guard_tables.specs.Plan.{plan, form_in, body_in}
use Rattle.guard_tables.specs.inside.Assembled.{Grows, plan_in}
use Rattle.guard_tables.proofs.assembly.with_tags.Given as goal

abbrev pub decreases-loop-left : goal.decreases-loop-left
decreases-loop-left l = l.left

-- the tags from there on are round it
abbrev pub invariant-loop-left : goal.invariant-loop-left
invariant-loop-left l = record {
  grows : Grows l.initial.whole.builder l.whole.builder;
  stands : plan_in l.whole ≡ plan (drop l.left l.tags) (form_in (plan_in l.initial.whole)) (body_in (plan_in l.initial.whole));
  within : l.left ≤ length l.tags - 1;
}
