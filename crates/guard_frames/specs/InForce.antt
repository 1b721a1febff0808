-- Frames, each decided by a policy of its own: the one that was in force as its last octet came.
use Rattle.std.specs.Prelude.{◌≡◌, ◌<◌, ◌≤◌, ◌+◌, ◌⊎◌, ℕ, List, [], ◌∷◌, ◌++◌, map, length}
use Rattle.guard_policy.specs.Policies.{AbstractPolicy}
use Rattle.guard_frames.specs.Totals.{later}
use Rattle.guard_frames.specs.Outcomes.{Outcome, frames_of}
use Rattle.guard_frames.specs.Guarding.{Adds}
use Rattle.guard_frames.specs.OfPolicy.{decision_of}
use Rattle.guard_frames.specs.OwnPieces.{OwnPiece}

-- a frame, whether it went out, and the policy by which that was decided
pub record Ruled : Type 0 where
  pub policy : AbstractPolicy
  pub outcome : Outcome

abbrev pub outcomes_of : List Ruled → List Outcome
outcomes_of ruled = map (λ x. x.outcome) ruled

abbrev pub frames_ruled : List Ruled → List (List ℕ)
frames_ruled ruled = frames_of (outcomes_of ruled)

abbrev pub policies_of : List Ruled → List AbstractPolicy
policies_of ruled = map (λ x. x.policy) ruled

-- the lines that frames numbered on from n add, each by its own policy
abbrev pub AllAddUnder : ℕ → List Ruled → List ℕ → Type 0
AllAddUnder n [] text = text ≡ []
AllAddUnder n (x ∷ ruled) text = (line : List ℕ) × (lines : List ℕ) × (text ≡ line ++ lines)
    × Adds (decision_of x.policy) n x.outcome line × AllAddUnder (later n 1) ruled lines

-- What ends at this place of the stream has its last octet in a piece that came under this policy; the pieces begin at
-- `from`.
abbrev pub EndsUnder : ℕ → List OwnPiece → ℕ → AbstractPolicy → Type 0
EndsUnder from [] place p = ⊥
EndsUnder from (x ∷ pieces) place p =
    ((from < place) × (place ≤ from + length x.octets) × (x.policy ≡ p))
    ⊎ EndsUnder (from + length x.octets) pieces place p

-- Each frame is under the policy under which its last octet came; the first one begins at `place`.
abbrev pub AreInForce : ℕ → List OwnPiece → ℕ → List Ruled → Type 0
AreInForce from pieces place [] = Unit {0}
AreInForce from pieces place (x ∷ ruled) =
    EndsUnder from pieces (place + length x.outcome.frame) x.policy
    × AreInForce from pieces (place + length x.outcome.frame) ruled
