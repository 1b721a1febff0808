-- What contracts see of a gateway, and what an event does to it and to its sinks.
use Rattle.std.specs.Prelude.{◌≡◌, ◌⊎◌, ℕ, List, Option, Some, None, Result, map, slice_get, slice_set, Bool, true, Err}
use Rattle.guard_policy.specs.PolicyView.{policy_view}
use Rattle.guard_frames.specs.LinkView.{AbstractLink, link_view}
use Rattle.guard_frames.specs.declared.link.LinkFault.TheVariants.{WriteFailed, Closed}
use Rattle.guard_frames.specs.declared.seats.Seat.{Seat}
use Rattle.guard_frames.specs.declared.seats.Ends.{Ends}
use Rattle.guard_frames.specs.declared.gateway.StepFault.{StepFault}
use Rattle.guard_frames.specs.declared.gateway.StepFault.TheVariants.{Link}
use Rattle.guard_frames.specs.declared.gateway.Gateway.{Gateway}
use Rattle.guard_frames.specs.declared.gateway.Event.{Event}
use Rattle.guard_frames.specs.declared.gateway.Event.TheVariants.{Piece, End, Reload}
use Rattle.guard_frames.specs.Added.{Added, BothAppend}
use Rattle.guard_frames.specs.Gateways.{AbstractGateway, AbstractEvent}
use Rattle.guard_frames.specs.Gateways.AbstractEvent.{piece, end, reload}
use Rattle.guard_frames.specs.GatewaySteps.{Step}

abbrev pub links_of : {S : Type 0} → List (Seat S) → List AbstractLink
links_of seats = map (λ x. link_view x.link) seats

-- the sinks of each link
abbrev pub ends_of : {S : Type 0} → List (Seat S) → List (Ends S)
ends_of seats = map (λ x. x.ends) seats

abbrev pub gateway_view : {S : Type 0} → Gateway S → AbstractGateway
gateway_view g = record { policy = policy_view g.policy; links = links_of g.seats.items }

abbrev pub gateway_ends : {S : Type 0} → Gateway S → List (Ends S)
gateway_ends g = ends_of g.seats.items

abbrev pub event_view : Event → AbstractEvent
event_view (Piece i octets) = piece i octets.now
event_view (End i) = end i
event_view (Reload p) = reload (policy_view p)

-- The sinks of link i took what was added, and one of them has failed where the answer says so. Where it says that the
-- link is closed they are as they were. All others are the same.
pub record TookAt {S : Type 0} (taken : S → Option (List ℕ)) (has_failed : S → Bool) (old : List (Ends S)) (i : ℕ)
    (answer : Result (Unit {0}) StepFault) (added : Added) (new : List (Ends S)) : Type 0 where
  pub old_ends : Ends S
  pub new_ends : Ends S
  pub there : slice_get old i ≡ Some old_ends
  pub took : BothAppend (taken old_ends.out, taken new_ends.out) (taken old_ends.reports, taken new_ends.reports) added
  pub failed : answer ≡ Err (Link WriteFailed) →
      (has_failed new_ends.out ≡ true) ⊎ (has_failed new_ends.reports ≡ true)
  pub shut : answer ≡ Err (Link Closed) → new_ends ≡ old_ends
  pub others : new ≡ slice_set old i new_ends

-- a piece is for the sinks of its link, where there is one; no other event touches sinks
abbrev pub Took : {S : Type 0} → (S → Option (List ℕ)) → (S → Bool) → List (Ends S) → AbstractEvent →
    Result (Unit {0}) StepFault → Added → List (Ends S) → Type 0
Took taken has_failed old (piece i octets) answer added new =
    TookAt taken has_failed old i answer added new ⊎ ((slice_get old i ≡ None) × (new ≡ old))
Took taken has_failed old (end i) answer added new = new ≡ old
Took taken has_failed old (reload p) answer added new = new ≡ old

-- What an event did to a gateway with its sinks, by what was answered. This is so of what it added, unless a sink of the
-- link has failed.
pub record IsStepOf {S : Type 0} (taken : S → Option (List ℕ)) (has_failed : S → Bool) (So : Added → Type 0)
    (old : Gateway S) (event : Event) (answer : Result (Unit {0}) StepFault) (new : Gateway S) : Type 0 where
  pub added : Added
  pub step : Step (gateway_view old) (event_view event) answer added (gateway_view new)
  pub took : Took taken has_failed (gateway_ends old) (event_view event) answer added (gateway_ends new)
  pub noted : (answer ≡ Err (Link WriteFailed) → ⊥) → So added
