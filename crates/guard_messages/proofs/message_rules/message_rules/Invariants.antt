use Rattle.std.proofs.Common.{◌≡◌, ◌++◌, drop}
use Rattle.guard_policy.specs.PolicyView.{policy_view}
use Rattle.guard_messages.specs.Reasons.{message_rules}
use Rattle.guard_messages.proofs.message_rules.message_rules.Given as goal

abbrev pub invariant-loop-number : goal.invariant-loop-number
invariant-loop-number l =
    l.text.items ++ message_rules l.message (drop l.number (policy_view l.policy).rules)
    ≡ message_rules l.message (policy_view l.policy).rules
