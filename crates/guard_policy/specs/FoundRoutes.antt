-- What was found of a route, and what it decides.
use Rattle.std.specs.Prelude.{◌≡◌, ℕ, List, Some, None}
use Rattle.guard_policy.specs.declared.found_route.FoundRoute.{FoundRoute}
use Rattle.guard_policy.specs.declared.passing.Passing.{Passing}
use Rattle.guard_policy.specs.declared.passing.Passing.TheVariants as passing
use Rattle.guard_policy.specs.declared.verdict.PlainReason.TheVariants as plain
use Rattle.guard_policy.specs.Passing.{IsAnswer}
use Rattle.guard_policy.specs.Policies.{AbstractPolicy, AbstractRoute}
use Rattle.guard_policy.specs.Told.{Tells}

-- what it answers of the octets of a message
abbrev pub Answers : FoundRoute → List ℕ → Passing → Type 0
Answers found octets told = elim found.lead [
  | Some (message, rules) ↦ IsAnswer message.now rules octets told
  | None ↦ told ≡ passing.Stopped (Some plain.UnknownMessage)
]

-- what was found of the route decides each message on it: what it answers is so
abbrev pub Decides : AbstractPolicy → AbstractRoute → FoundRoute → Type 0
Decides p route found = (octets : List ℕ) (told : Passing) → Answers found octets told → Tells p route octets told
