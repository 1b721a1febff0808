-- What an event does to links with their sinks.
use Rattle.std.specs.Prelude.{◌≡◌, ◌⊎◌, ℕ, Bool, true, List, Option, Some, None, Result, Err, slice_get, slice_set}
use Rattle.guard_frames.specs.LinkView.{link_view}
use Rattle.guard_frames.specs.LinkSteps.{Fed, Ended}
use Rattle.guard_frames.specs.Outcomes.{Decision}
use Rattle.guard_frames.specs.Added.{Added, nothing, BothAppend}
use Rattle.guard_frames.specs.Gateways.{step_answer}
use Rattle.guard_frames.specs.declared.link.LinkFault.{LinkFault}
use Rattle.guard_frames.specs.declared.link.LinkFault.TheVariants.{WriteFailed, Closed}
use Rattle.guard_frames.specs.declared.gateway.StepFault.{StepFault}
use Rattle.guard_frames.specs.declared.gateway.StepFault.TheVariants.{NoSuchLink}
use Rattle.guard_frames.specs.declared.seats.Seat.{Seat}

-- A piece did this to a link, and its sinks took what it added. Those of a closed one are as they were. This is so of
-- what was added, unless a sink has failed.
pub record IsFed {S : Type 0} (d : Decision) (taken : S → Option (List ℕ)) (has_failed : S → Bool)
    (So : Added → Type 0) (old : Seat S) (octets : List ℕ) (answer : Result (Unit {0}) LinkFault) (new : Seat S) : Type 0 where
  pub added : Added
  pub does : Fed d (link_view old.link) octets answer (link_view new.link) added
  pub took : BothAppend (taken old.ends.out, taken new.ends.out) (taken old.ends.reports, taken new.ends.reports) added
  pub failed : answer ≡ Err WriteFailed → (has_failed new.ends.out ≡ true) ⊎ (has_failed new.ends.reports ≡ true)
  pub shut : answer ≡ Err Closed → new.ends ≡ old.ends
  pub noted : (answer ≡ Err WriteFailed → ⊥) → So added

-- There is no seat of this number.
pub record IsNoSeat {S : Type 0} (old : List (Seat S)) (at : ℕ) (answer : Result (Unit {0}) StepFault)
    (new : List (Seat S)) : Type 0 where
  pub none : slice_get old at ≡ None
  pub answered : answer ≡ Err NoSuchLink
  pub same : new ≡ old

-- This was done at one seat; the others stay.
pub record IsAtSeat {S : Type 0} (old : List (Seat S)) (at : ℕ) (answer : Result (Unit {0}) StepFault)
    (new : List (Seat S)) (Does : Seat S → Result (Unit {0}) LinkFault → Seat S → Type 0) : Type 0 where
  pub old_seat : Seat S
  pub new_seat : Seat S
  pub link_answer : Result (Unit {0}) LinkFault
  pub there : slice_get old at ≡ Some old_seat
  pub does : Does old_seat link_answer new_seat
  pub answered : answer ≡ step_answer link_answer
  pub others : new ≡ slice_set old at new_seat

abbrev pub IsFedAt : {S : Type 0} → Decision → (S → Option (List ℕ)) → (S → Bool) → (Added → Type 0) → List (Seat S) → ℕ →
    List ℕ → Result (Unit {0}) StepFault → List (Seat S) → Type 0
IsFedAt d taken has_failed So old at octets answer new =
    (IsNoSeat old at answer new × So nothing)
    ⊎ IsAtSeat old at answer new (λ s told s₁. IsFed d taken has_failed So s octets told s₁)

-- An end leaves the sinks as they were.
pub record IsEnded {S : Type 0} (old : Seat S) (answer : Result (Unit {0}) LinkFault) (new : Seat S) : Type 0 where
  pub does : Ended (link_view old.link) answer (link_view new.link)
  pub ends : new.ends ≡ old.ends

abbrev pub IsEndedAt : {S : Type 0} → List (Seat S) → ℕ → Result (Unit {0}) StepFault → List (Seat S) → Type 0
IsEndedAt old at answer new = IsNoSeat old at answer new ⊎ IsAtSeat old at answer new IsEnded
