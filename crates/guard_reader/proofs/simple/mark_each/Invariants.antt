use Rattle.std.proofs.Common.{◌≡◌, drop, map, Some}
use Rattle.guard_der.specs.Simple.{simple_value}
use Rattle.guard_tables.specs.Marking.{facts, conditions_marked}
use Rattle.guard_tables.specs.NodeViews.{kind_view, condition_view}
use Rattle.guard_reader.proofs.simple.mark_each.Given as goal

abbrev pub invariant-loop-condition : goal.invariant-loop-condition
invariant-loop-condition l =
    conditions_marked (map condition_view (drop l.condition-index l.conditions)) (facts (simple_value (kind_view l.kind l.items) l.inside) (Some l.inside)) l.failed
    ≡ conditions_marked (map condition_view l.conditions) (facts (simple_value (kind_view l.kind l.items) l.inside) (Some l.inside)) l.fn.failed
