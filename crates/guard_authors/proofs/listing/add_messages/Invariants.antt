use Rattle.std.proofs.Common.{◌≡◌, ◌++◌, drop, map}
use Rattle.guard_policy.specs.PolicyView.{policy_view}
use Rattle.guard_authors.specs.Listing.{found_view, messages_lines}
use Rattle.guard_authors.proofs.listing.add_messages.Given as goal

abbrev pub invariant-loop-place : goal.invariant-loop-place
invariant-loop-place l =
    l.text.items ++ messages_lines l.strict (map found_view l.rules) (drop l.place (map (λ m. m.name) (policy_view l.policy).messages))
    ≡ l.initial.text.items ++ messages_lines l.strict (map found_view l.rules) (map (λ m. m.name) (policy_view l.policy).messages)
