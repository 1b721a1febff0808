use Rattle.std.proofs.Common.{◌≡◌, ◌++◌, drop, map}
use Rattle.guard_policy.specs.PolicyView.{policy_view}
use Rattle.guard_authors.specs.Listing.{found_from, found_rules, found_view}
use Rattle.guard_authors.proofs.listing.found_rules.Given as goal

-- what was found, with what is found of the rules that are left, is what is found of all
abbrev pub invariant-loop-number : goal.invariant-loop-number
invariant-loop-number l =
    map found_view l.found.items ++ found_from (policy_view l.policy) l.number (drop l.number (policy_view l.policy).rules) ≡ found_rules (policy_view l.policy)
