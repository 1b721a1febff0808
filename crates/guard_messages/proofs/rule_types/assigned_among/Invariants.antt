use Rattle.std.proofs.Common.{◌≡◌, drop, map}
use Rattle.guard_syntax.specs.ModuleViews.{assignment_view}
use Rattle.guard_messages.specs.RuleTypes.{assigned_among}
use Rattle.guard_messages.proofs.rule_types.assigned_among.Given as goal

abbrev pub invariant-loop-assignment : goal.invariant-loop-assignment
invariant-loop-assignment l =
    assigned_among l.name (map assignment_view (drop l.assignment-index l.assignments)) ≡ assigned_among l.name (map assignment_view l.assignments)
