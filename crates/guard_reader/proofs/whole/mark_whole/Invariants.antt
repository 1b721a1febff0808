use Rattle.std.proofs.Common.{◌≡◌, drop, map}
use Rattle.guard_tables.specs.Marking.{conditions_marked}
use Rattle.guard_tables.specs.NodeViews.{condition_view}
use Rattle.guard_reader.specs.Judging.{whole_facts}
use Rattle.guard_reader.proofs.whole.mark_whole.Given as goal

abbrev pub invariant-loop-condition : goal.invariant-loop-condition
invariant-loop-condition l =
    conditions_marked (map condition_view (drop l.condition-index l.conditions)) (whole_facts l.size l.inside) l.failed
    ≡ conditions_marked (map condition_view l.conditions) (whole_facts l.size l.inside) l.fn.failed
