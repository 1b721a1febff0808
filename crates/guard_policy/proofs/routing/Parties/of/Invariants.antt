use Rattle.std.proofs.Common.{ℕ, List, take}
use Rattle.std.specs.Prelude.{bytes_eq}
use Rattle.std.specs.Map.{lookup}
use Rattle.guard_policy.specs.inside.Said.{rules_view}
use Rattle.guard_policy.proofs.PartyNames.{Finds}
use Rattle.guard_policy.proofs.routing.Parties.of.Given as goal

abbrev pub invariant-loop-rule : goal.invariant-loop-rule
invariant-loop-rule l =
    (name : List ℕ) → Finds l.side (rules_view l.rules) (rules_view (take l.rule-index l.rules)) name (lookup (λ key. bytes_eq name key.octets.items) l.named.entries)
