use Rattle.std.proofs.Common.{◌≡◌, ◌++◌, drop}
use Rattle.guard_model.specs.ValueView.{value_view}
use Rattle.guard_policy.specs.Decisions.{rules_of, speaking}
use Rattle.guard_policy.specs.PolicyView.{policy_view, route_view}
use Rattle.guard_files.specs.Allowed.{allowing, allowing_lines}
use Rattle.guard_files.proofs.allowed.allowing.Given as goal

-- the numbers and lines so far, and those of what is left
abbrev pub invariant-loop-number : goal.invariant-loop-number
invariant-loop-number l = record {
  numbers : l.numbers.items ++ allowing (speaking (route_view l.route) l.number (drop l.number (policy_view l.policy).rules)) (value_view l.value)
      ≡ allowing (rules_of (policy_view l.policy) (route_view l.route)) (value_view l.value);
  lines : l.lines.items ++ allowing_lines (route_view l.route) (value_view l.value) (drop l.number (policy_view l.policy).rules)
      ≡ allowing_lines (route_view l.route) (value_view l.value) (policy_view l.policy).rules;
}
