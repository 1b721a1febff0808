-- Routes that rules give by three names, and the octets of these names.
use Rattle.std.specs.Prelude.{◌≡◌, ℕ, Bool, ◌&&◌, List, ◌∷◌, ◌++◌, length, bytes_eq, IsTrue}
use Rattle.std.specs.List.{list_any}
use Rattle.guard_policy.specs.Names.{is_plain}
use Rattle.guard_policy.specs.Policies.{AbstractRule, AbstractRoute}

-- a name after its length
abbrev pub with_length : List ℕ → List ℕ
with_length name = length name ∷ name

-- the three names of a route, each after its length
abbrev pub route_octets : AbstractRoute → List ℕ
route_octets route = with_length route.from ++ (with_length route.to ++ with_length route.message)

-- the rule gives the route's own names
abbrev pub gives : AbstractRoute → AbstractRule → Bool
gives route r = bytes_eq r.from route.from && bytes_eq r.to route.to && bytes_eq r.message route.message

-- The octets are three names, and some rule gives the route that they are.
pub record IsGiven (rules : List AbstractRule) (names : List ℕ) (route : AbstractRoute) : Type 0 where
  pub octets : names ≡ route_octets route
  pub plain : IsTrue (is_plain route)
  pub given : IsTrue (list_any (gives route) rules)
