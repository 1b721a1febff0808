use Rattle.std.proofs.Common.{◌≡◌, ◌++◌, drop, map}
use Rattle.guard_policy.specs.PolicyView.{policy_view, route_view}
use Rattle.guard_eval.specs.Violations.{shortfall_view}
use Rattle.guard_report.specs.Text.{further_shortfalls}
use Rattle.guard_report.proofs.text.add_shortfalls.Given as goal

-- what is written, with the text of those that are left, is the text of all
abbrev pub invariant-loop-shortfall : goal.invariant-loop-shortfall
invariant-loop-shortfall l =
    l.text.items ++ further_shortfalls (policy_view l.policy) (route_view l.route) (map shortfall_view (drop l.shortfall-index l.rest))
    ≡ l.initial.text.items ++ further_shortfalls (policy_view l.policy) (route_view l.route) (map shortfall_view l.rest)
