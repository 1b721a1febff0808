-- What a look at a message tells: whether it goes, by which rule where it does, and the reason where it is found so.
use Rattle.std.specs.Prelude.{◌≡◌, ℕ, Bool, true, false, List, Option, Some, None, IfSome}
use Rattle.guard_eval.specs.Violations.{AbstractViolation}
use Rattle.guard_policy.specs.declared.passing.Passing.{Passing}
use Rattle.guard_policy.specs.declared.passing.Passing.TheVariants as passing
use Rattle.guard_policy.specs.Decisions.{Goes, IsReason, rules_of, first_allowing}
use Rattle.guard_policy.specs.Policies.{AbstractPolicy, AbstractRoute}
use Rattle.guard_policy.specs.Verdicts.{AbstractVerdict, not_allowed, reason_view}

-- The verdict is the reason. None stands for the one that no allowing rule of the route has the value, with whichever
-- violations.
abbrev pub IsToldReason : AbstractPolicy → AbstractRoute → List ℕ → Option AbstractVerdict → Type 0
IsToldReason p route octets (Some w) = IsReason p route octets w
IsToldReason p route octets None =
    (found : List (ℕ × AbstractViolation)) × IsReason p route octets (not_allowed found)

abbrev pub is_going : Passing → Bool
is_going (passing.Goes rule) = true
is_going (passing.Stopped reason) = false

-- The message goes, and this rule, by its number in the policy, is the first of its route that allows it.
abbrev pub IsAllowedBy : AbstractPolicy → AbstractRoute → List ℕ → ℕ → Type 0
IsAllowedBy p route octets rule =
    (goes : Goes p route octets) × (first_allowing (rules_of p route) goes.1 ≡ Some rule)

-- the message goes, by this rule; or it doesn't, and a reason that is told is the one
abbrev pub Tells : AbstractPolicy → AbstractRoute → List ℕ → Passing → Type 0
Tells p route octets (passing.Goes rule) = IsAllowedBy p route octets rule
Tells p route octets (passing.Stopped reason) =
    (Goes p route octets → ⊥) × IfSome reason (λ r. IsToldReason p route octets (reason_view r))
