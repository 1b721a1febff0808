use Rattle.std.proofs.Common.{◌≡◌, drop, map}
use Rattle.guard_syntax.specs.ModuleViews.{module_view}
use Rattle.guard_messages.specs.RuleTypes.{assigned_at}
use Rattle.guard_messages.proofs.rule_types.assigned_at.Given as goal

-- what is looked for in what is left is where it is in all
abbrev pub invariant-loop-module : goal.invariant-loop-module
invariant-loop-module l =
    assigned_at l.home l.name (map module_view (drop l.module-index l.modules)) ≡ assigned_at l.home l.name (map module_view l.modules)
