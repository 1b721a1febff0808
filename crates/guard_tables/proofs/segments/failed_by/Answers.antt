use Rattle.std.proofs.Common.{refl, map}
use Rattle.guard_tables.specs.Marking.{are_on_numbers}
use Rattle.guard_tables.specs.NodeViews.{condition_view}
use Rattle.guard_tables.proofs.NumberSegments.{none_yet, one_more, numbers_more}
use Rattle.guard_tables.proofs.segments.failed_by.Goals as goal

pub loop-condition-init : goal.loop-condition-init
loop-condition-init c = record {
  numbers = refl;
  so_far = λ f m n. none_yet (map condition_view c.args.conditions.now) f m c.none-failed.result c.none-failed.ensures;
}

pub loop-condition-preserved : goal.loop-condition-preserved
loop-condition-preserved c =
    let cs = c.args.conditions.now in
    let i = c.loop-condition.condition-index in
    record {
      numbers = numbers_more cs i c.condition-item.result (are_on_numbers (map condition_view cs)) c.loop-condition-test.true c.condition-item.is
          c.in-Some.ensures.numbers c.loop-condition.invariant.numbers;
      so_far = one_more cs i c.condition-item.result _ c.in-Some.passed c.loop-condition.failed c.add_unless.new.failed c.loop-condition-test.true c.condition-item.is
          c.in-Some.ensures.passed c.add_unless.ensures c.loop-condition.invariant.so_far;
    }
