use Rattle.std.proofs.Common.{◌≡◌, ℕ, List, map, take, option_and_then}
use Rattle.std.specs.Prelude.{bytes_eq}
use Rattle.std.specs.Map.{lookup}
use Rattle.guard_policy.specs.SaidView.{said_view}
use Rattle.guard_policy.specs.inside.Leads.{given_route, lead_of}
use Rattle.guard_policy.proofs.leads.Leads.of.Given as goal

abbrev pub invariant-loop-rule : goal.invariant-loop-rule
invariant-loop-rule l =
    (names : List ℕ) → lookup (λ key. bytes_eq names key.octets.items) l.routes.entries
    ≡ option_and_then (lead_of l.index l.messages) (given_route names (map said_view (take l.rule-index l.rules)))
