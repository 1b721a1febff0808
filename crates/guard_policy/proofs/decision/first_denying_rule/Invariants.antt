use Rattle.std.proofs.Common.{◌≡◌, drop}
use Rattle.guard_model.specs.ValueView.{value_view}
use Rattle.guard_policy.specs.inside.KeptRules.{rules_kept}
use Rattle.guard_policy.specs.PolicyView.{route_view}
use Rattle.guard_policy.specs.Decisions.{first_denying}
use Rattle.guard_policy.specs.inside.Listings.{rules_at, heard}
use Rattle.guard_policy.proofs.decision.first_denying_rule.Given as goal

-- the first of what is left is the first of all
abbrev pub invariant-loop-number : goal.invariant-loop-number
invariant-loop-number l =
    first_denying (heard (route_view l.route) (rules_at (rules_kept l.kept) (drop l.number-index l.numbers))) (value_view l.value)
    ≡ first_denying (heard (route_view l.route) (rules_at (rules_kept l.kept) l.numbers)) (value_view l.value)
