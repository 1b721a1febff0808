use Rattle.std.proofs.Common.{◌≡◌, ◌+◌, drop}
use Rattle.std.specs.Prelude.{option_map}
use Rattle.toml.specs.View.{items_view}
use Rattle.guard_notes.specs.PolicyNotes.{number_of_rule}
use Rattle.guard_notes.proofs.policy_notes.number_of_rule.Given as goal

-- the number among those that are left is the one among all
abbrev pub invariant-loop-place : goal.invariant-loop-place
invariant-loop-place l =
    let message = option_map (λ name. name.now) l.message in
    number_of_rule message l.left (l.place + 1) (items_view (drop l.place l.rules)) ≡ number_of_rule message l.among 1 (items_view l.rules)
