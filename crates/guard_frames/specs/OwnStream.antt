-- What a link's own stream gives.
use Rattle.std.specs.Prelude.{◌≡◌, ◌+◌, ℕ, Bool, true, false, List, ◌++◌, length}
use Rattle.std.specs.List.{concat, All}
use Rattle.guard_policy.specs.Policies.{AbstractPolicy}
use Rattle.guard_frames.specs.Frames.{IsFrame, ConsistsOf}
use Rattle.guard_frames.specs.Totals.{later}
use Rattle.guard_frames.specs.Guarding.{text_out, InPart}
use Rattle.guard_frames.specs.OfPolicy.{decision_of}
use Rattle.guard_frames.specs.Added.{Added}
use Rattle.guard_frames.specs.OwnPieces.{OwnPiece, own_stream}
use Rattle.guard_frames.specs.InForce.{Ruled, outcomes_of, frames_ruled, AllAddUnder, EndsUnder, AreInForce}

-- The frames of the stream are out or reported, numbered from 1, each by the policy under which its last octet came.
pub record GivesAll (pieces : List OwnPiece) (added : Added) : Type 0 where
  pub ruled : List Ruled
  pub rest : List ℕ
  pub split : ConsistsOf (own_stream pieces) (frames_ruled ruled) rest
  pub in_force : AreInForce 0 pieces 0 ruled
  pub out : added.out ≡ text_out (outcomes_of ruled)
  pub reports : AllAddUnder 1 ruled added.reports

-- The first ones are out or reported, and the next one in part: its own octets, where it goes, or its line, where it
-- stays.
pub record GivesInPart (pieces : List OwnPiece) (added : Added) : Type 0 where
  pub first : List Ruled
  pub next : List ℕ
  pub policy : AbstractPolicy
  pub more : List ℕ
  pub begins : own_stream pieces ≡ concat (frames_ruled first) ++ (next ++ more)
  pub each : All IsFrame (frames_ruled first)
  pub frame : IsFrame next
  pub in_force : AreInForce 0 pieces 0 first
  pub last_in_force : EndsUnder 0 pieces (length (concat (frames_ruled first)) + length next) policy
  pub lines : List ℕ
  pub all : AllAddUnder 1 first lines
  pub part : Added
  pub last : InPart (decision_of policy) (later 1 (length first)) next part
  pub out : added.out ≡ text_out (outcomes_of first) ++ part.out
  pub reports : added.reports ≡ lines ++ part.reports

-- what the pieces give, by whether a sink of the link failed
abbrev pub Gives : List OwnPiece → Added → Bool → Type 0
Gives pieces added false = GivesAll pieces added
Gives pieces added true = GivesInPart pieces added
