-- What of a list of events is a link's own.
use Rattle.std.specs.Prelude.{ℕ, Bool, true, false, nat_eq, if◌then◌else◌, List, [], ◌∷◌, map, Result, Ok, Err}
use Rattle.std.specs.List.{concat}
use Rattle.guard_policy.specs.Policies.{AbstractPolicy}
use Rattle.guard_frames.specs.declared.link.LinkFault.TheVariants.{FrameTooLong, WriteFailed, Closed, TornFrame}
use Rattle.guard_frames.specs.declared.gateway.StepFault.{StepFault}
use Rattle.guard_frames.specs.declared.gateway.StepFault.TheVariants.{NoSuchLink, Link}
use Rattle.guard_frames.specs.Added.{Added, nothing, joined}
use Rattle.guard_frames.specs.Gateways.{AbstractEvent}
use Rattle.guard_frames.specs.Gateways.AbstractEvent.{piece, end, reload}
use Rattle.guard_frames.specs.GatewaySteps.{Turn}

-- a piece, and the policy that was in force as it came
pub record OwnPiece : Type 0 where
  pub policy : AbstractPolicy
  pub octets : List ℕ

-- whether this answer is a fault of the event's link
abbrev pub is_fault : Result (Unit {0}) StepFault → Bool
is_fault (Ok done) = false
is_fault (Err NoSuchLink) = false
is_fault (Err (Link fault)) = true

-- The pieces of link k, where p is in force at first, until the link ends for the first time. A piece that was answered
-- with a fault of the link ends it too, and is the last of them.
abbrev pub pieces_of : ℕ → AbstractPolicy → List Turn → List OwnPiece
pieces_of k p [] = []
pieces_of k p (t ∷ turns) = elim t.event [
  | piece i octets ↦
      if nat_eq i k
      then record { policy = p; octets = octets } ∷ (if is_fault t.answer then [] else pieces_of k p turns)
      else pieces_of k p turns
  | end i ↦ if nat_eq i k then [] else pieces_of k p turns
  | reload q ↦ pieces_of k q turns
]

-- the stream of a link: the octets of its own pieces, joined
abbrev pub own_stream : List OwnPiece → List ℕ
own_stream pieces = concat (map (λ x. x.octets) pieces)

-- whether this is an event of link k
abbrev pub is_own : ℕ → AbstractEvent → Bool
is_own k (piece i octets) = nat_eq i k
is_own k (end i) = nat_eq i k
is_own k (reload p) = false

-- all that was added to its sinks
abbrev pub added_to : ℕ → List Turn → Added
added_to k [] = nothing
added_to k (t ∷ turns) = if is_own k t.event then joined t.added (added_to k turns) else added_to k turns

-- whether this answer says that a sink failed
abbrev pub is_failure : Result (Unit {0}) StepFault → Bool
is_failure (Ok done) = false
is_failure (Err NoSuchLink) = false
is_failure (Err (Link FrameTooLong)) = false
is_failure (Err (Link WriteFailed)) = true
is_failure (Err (Link Closed)) = false
is_failure (Err (Link TornFrame)) = false

-- whether one of its events was answered so
abbrev pub is_broken : ℕ → List Turn → Bool
is_broken k [] = false
is_broken k (t ∷ turns) =
    if is_own k t.event then (if is_failure t.answer then true else is_broken k turns) else is_broken k turns
