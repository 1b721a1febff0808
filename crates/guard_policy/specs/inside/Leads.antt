-- What the octets of a route lead to, where some rule gives the route.
use Rattle.std.specs.Prelude.{◌≡◌, ℕ, ◌&&◌, List, [], ◌∷◌, bytes_eq, slice_get, Option, Some, None, option_map, option_and_then, if◌then◌else◌}
use Rattle.std.specs.Map.{lookup}
use Rattle.guard_policy.specs.declared.index.Index.{Index}
use Rattle.guard_policy.specs.declared.kept.KeptMessage.{KeptMessage}
use Rattle.guard_policy.specs.declared.leads.Lead.{Lead}
use Rattle.guard_policy.specs.declared.leads.Leads.{Leads}
use Rattle.guard_policy.specs.NamedRoutes.{route_octets}
use Rattle.guard_policy.specs.Names.{is_plain}
use Rattle.guard_policy.specs.Policies.{AbstractRule, AbstractRoute, own_route}
use Rattle.guard_policy.specs.inside.Listings.{AbstractListed, found_in}
use Rattle.guard_policy.specs.Routing.{route_rules}

-- the route of the first of these rules whose own names are names, with these octets
abbrev pub given_route : List ℕ → List AbstractRule → Option AbstractRoute
given_route names [] = None
given_route names (r ∷ rs) =
    if is_plain (own_route r) && bytes_eq names (route_octets (own_route r)) then Some (own_route r)
    else given_route names rs

abbrev pub lead_there : List KeptMessage → AbstractRoute → AbstractListed → Option Lead
lead_there messages route l =
    option_map (λ m. record { place = l.place; rules = route_rules m.routing route }) (slice_get messages l.place)

-- what a route leads to, where its message is declared
abbrev pub lead_of : Index → List KeptMessage → AbstractRoute → Option Lead
lead_of index messages route = option_and_then (lead_there messages route) (found_in index route.message)

abbrev pub found_lead : Leads → List ℕ → Option Lead
found_lead leads names = lookup (λ key. bytes_eq names key.octets.items) leads.routes.entries

abbrev pub AreLeads : Index → List KeptMessage → List AbstractRule → Leads → Type 0
AreLeads index messages rules leads =
    (names : List ℕ) → found_lead leads names ≡ option_and_then (lead_of index messages) (given_route names rules)
