-- What a policy answers of messages, where a handle may hold none.
use Rattle.std.specs.Prelude.{◌≡◌, ◌≢◌, ℕ, false, List, Option, Some, None, Result, Ok, Err, IsTrue, IsSomeAnd}
use Rattle.guard_policy.specs.Policies.{AbstractPolicy, AbstractRoute}
use Rattle.guard_policy.specs.Names.{is_plain}
use Rattle.guard_policy.specs.NamedRoutes.{route_octets}
use Rattle.guard_policy.specs.Verdicts.{AbstractVerdict}
use Rattle.guard_policy.specs.Decisions.{Goes, IsReason}
use Rattle.guard_report.specs.Text.{verdict_octets}
use Rattle.guard_c.specs.declared.status.Status.{Status}
use Rattle.guard_c.specs.declared.status.Status.TheVariants.{NoPolicy, BadNames, OutOfMemory}

-- The octets are the three names of the route, each after its length.
pub record AreNamesOf (octets : List ℕ) (route : AbstractRoute) : Type 0 where
  pub joined : octets ≡ route_octets route
  pub plain : IsTrue (is_plain route)

-- ---- whether a message passes

-- The three are names, and the message goes on their route. Where no policy is held nothing passes.
abbrev pub PassesOn : Option AbstractPolicy → AbstractRoute → List ℕ → Type 0
PassesOn policy route message = IsSomeAnd policy (λ p. IsTrue (is_plain route) × Goes p route message)

-- The octets are three names, and the message goes on the route of these. Where no policy is held nothing passes.
abbrev pub Passes : Option AbstractPolicy → List ℕ → List ℕ → Type 0
Passes policy names message =
    IsSomeAnd policy (λ p. (route : AbstractRoute) × AreNamesOf names route × Goes p route message)

-- ---- what is said of it

-- the text of the verdict on a message of this route
abbrev pub SaysOf : AbstractPolicy → AbstractRoute → List ℕ → List ℕ → Type 0
SaysOf p route message text =
    (w : AbstractVerdict) × IsReason p route message w × (text ≡ verdict_octets p route w)

-- A call says this of the message, or why it says nothing.
abbrev pub SaidOn : Option AbstractPolicy → AbstractRoute → List ℕ → Result (List ℕ) Status → Type 0
SaidOn policy route message (Ok text) = IsSomeAnd policy (λ p. IsTrue (is_plain route) × SaysOf p route message text)
SaidOn policy route message (Err NoPolicy) = policy ≡ None
SaidOn policy route message (Err BadNames) = (policy ≢ None) × (is_plain route ≡ false)
SaidOn policy route message (Err OutOfMemory) = policy ≢ None
SaidOn policy route message (Err _) = ⊥

-- A call says this of the message on the route whose names the octets are, or why it says nothing.
abbrev pub SaidBy : Option AbstractPolicy → List ℕ → List ℕ → Result (List ℕ) Status → Type 0
SaidBy policy names message (Ok text) =
    IsSomeAnd policy (λ p. (route : AbstractRoute) × AreNamesOf names route × SaysOf p route message text)
SaidBy policy names message (Err NoPolicy) = policy ≡ None
SaidBy policy names message (Err BadNames) = (policy ≢ None) × ((route : AbstractRoute) → AreNamesOf names route → ⊥)
SaidBy policy names message (Err OutOfMemory) = policy ≢ None
SaidBy policy names message (Err _) = ⊥
