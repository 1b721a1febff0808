use Rattle.std.proofs.Common.{◌≡◌, map, take}
use Rattle.guard_policy.specs.PolicyView.{policy_view}
use Rattle.guard_streams.specs.Counters.{count_view, fresh}
use Rattle.guard_streams.proofs.rule_counts.rules_of.Given as goal

-- those so far
abbrev pub invariant-loop-number : goal.invariant-loop-number
invariant-loop-number l = map count_view l.rules.items ≡ map fresh (take l.number (policy_view l.policy).rules)
