use Rattle.std.proofs.Common.{map, drop}
use Rattle.guard_model.specs.ValueView.{value_view}
use Rattle.guard_policy.specs.inside.KeptRules.{rules_kept}
use Rattle.guard_policy.specs.PolicyView.{route_view}
use Rattle.guard_policy.specs.inside.Listings.{rules_at, heard}
use Rattle.guard_policy.proofs.Shortfalls.{Gathered}
use Rattle.guard_eval.specs.Violations.{shortfall_view}
use Rattle.guard_policy.proofs.decision.judge_by_allowing.Given as goal

abbrev pub invariant-loop-number : goal.invariant-loop-number
invariant-loop-number l =
    Gathered (heard (route_view l.route) (rules_at (rules_kept l.kept) l.numbers)) (heard (route_view l.route) (rules_at (rules_kept l.kept) (drop l.number-index l.numbers)))
    (value_view l.value) (map shortfall_view l.shortfalls.items)
