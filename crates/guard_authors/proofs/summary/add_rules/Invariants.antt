use Rattle.std.proofs.Common.{◌≡◌, ◌++◌, drop}
use Rattle.guard_policy.specs.PolicyView.{policy_view}
use Rattle.guard_authors.specs.Summary.{lines_of, rule_line}
use Rattle.guard_authors.specs.inside.Counting.{count_at}
use Rattle.guard_authors.proofs.summary.add_rules.Given as goal

-- the text so far, and the lines of what is left
abbrev pub invariant-loop-number : goal.invariant-loop-number
invariant-loop-number l =
    l.text.items ++ lines_of rule_line (count_at l.counts) l.number (drop l.number (policy_view l.policy).rules)
    ≡ l.initial.text.items ++ lines_of rule_line (count_at l.counts) 0 (policy_view l.policy).rules
