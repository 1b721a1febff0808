-- What a policy answers of a message on its route, where there may be no policy and no route.
use Rattle.std.specs.Prelude.{◌≡◌, ◌≢◌, ℕ, List, Option, Some, None, Result, Ok, Err, IsSomeAnd, if◌then◌else◌}
use Rattle.guard_policy.specs.Policies.{AbstractPolicy, AbstractRoute}
use Rattle.guard_policy.specs.Names.{is_plain}
use Rattle.guard_policy.specs.Decisions.{Goes}
use Rattle.guard_c.specs.declared.status.Status.{Status}
use Rattle.guard_c.specs.declared.status.Status.TheVariants.{NoPolicy, BadNames, OutOfMemory}
use Rattle.guard_c.specs.Asking.{AreNamesOf, SaysOf}

-- the route, if the three are names
abbrev pub if_plain : AbstractRoute → Option AbstractRoute
if_plain route = if is_plain route then Some route else None

-- The octets are the names of this route, or of none.
abbrev pub IsRouteIn : List ℕ → Option AbstractRoute → Type 0
IsRouteIn names (Some route) = AreNamesOf names route
IsRouteIn names None = (route : AbstractRoute) → AreNamesOf names route → ⊥

-- The message goes on the route, where there is a policy and a route.
abbrev pub GoesOn : Option AbstractPolicy → Option AbstractRoute → List ℕ → Type 0
GoesOn policy route message = IsSomeAnd policy (λ p. IsSomeAnd route (λ r. Goes p r message))

-- A call says this of the message on the route, or why it says nothing.
abbrev pub Says : Option AbstractPolicy → Option AbstractRoute → List ℕ → Result (List ℕ) Status → Type 0
Says policy route message (Ok text) = IsSomeAnd policy (λ p. IsSomeAnd route (λ r. SaysOf p r message text))
Says policy route message (Err NoPolicy) = policy ≡ None
Says policy route message (Err BadNames) = (policy ≢ None) × (route ≡ None)
Says policy route message (Err OutOfMemory) = policy ≢ None
Says policy route message (Err _) = ⊥
