use Rattle.std.proofs.Common.{◌≡◌, ◌++◌, drop}
use Rattle.guard_policy.specs.PolicyView.{policy_view}
use Rattle.guard_authors.specs.Reached.{unreached_lines}
use Rattle.guard_authors.proofs.reached.unreached_lines.Given as goal

-- the lines so far, and those of what is left
abbrev pub invariant-loop-number : goal.invariant-loop-number
invariant-loop-number l =
    l.lines.items ++ unreached_lines l.reached l.number (drop l.number (policy_view l.policy).rules) ≡ unreached_lines l.reached 0 (policy_view l.policy).rules
