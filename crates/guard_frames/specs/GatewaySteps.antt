-- What one event does to a gateway, and what events one after another do.
use Rattle.std.specs.Prelude.{◌≡◌, ◌⊎◌, ℕ, List, [], ◌∷◌, Some, None, Result, Ok, Err, slice_get, slice_set}
use Rattle.guard_policy.specs.Policies.{AbstractPolicy}
use Rattle.guard_frames.specs.LinkView.{AbstractLink}
use Rattle.guard_frames.specs.LinkSteps.{Fed, Ended}
use Rattle.guard_frames.specs.OfPolicy.{decision_of}
use Rattle.guard_frames.specs.declared.link.LinkFault.{LinkFault}
use Rattle.guard_frames.specs.declared.gateway.StepFault.{StepFault}
use Rattle.guard_frames.specs.declared.gateway.StepFault.TheVariants.{NoSuchLink}
use Rattle.guard_frames.specs.Added.{Added, nothing}
use Rattle.guard_frames.specs.Gateways.{AbstractGateway, AbstractEvent, step_answer}
use Rattle.guard_frames.specs.Gateways.AbstractEvent.{piece, end, reload}

-- There is no link of this number, and nothing changes.
pub record IsNoLink (g : AbstractGateway) (i : ℕ) (answer : Result (Unit {0}) StepFault) (new : AbstractGateway)
    (added : Added) : Type 0 where
  pub none : slice_get g.links i ≡ None
  pub answered : answer ≡ Err NoSuchLink
  pub same : new ≡ g
  pub adds : added ≡ nothing

-- This happens to the link of this number; the policy and all other links stay.
pub record AtLink (g : AbstractGateway) (i : ℕ) (answer : Result (Unit {0}) StepFault) (new : AbstractGateway)
    (Does : AbstractLink → Result (Unit {0}) LinkFault → AbstractLink → Type 0) : Type 0 where
  pub old_link : AbstractLink
  pub new_link : AbstractLink
  pub link_answer : Result (Unit {0}) LinkFault
  pub there : slice_get g.links i ≡ Some old_link
  pub does : Does old_link link_answer new_link
  pub answered : answer ≡ step_answer link_answer
  pub others : new ≡ record { policy = g.policy; links = slice_set g.links i new_link }

-- A new policy is in force, and all else stays.
pub record Reloads (g : AbstractGateway) (p : AbstractPolicy) (answer : Result (Unit {0}) StepFault)
    (new : AbstractGateway) (added : Added) : Type 0 where
  pub answered : answer ≡ Ok tt
  pub same : new ≡ record { policy = p; links = g.links }
  pub adds : added ≡ nothing

-- What an event does to a gateway, and what it adds to the sinks of its link. A piece is decided by the policy in
-- force.
abbrev pub Step : AbstractGateway → AbstractEvent → Result (Unit {0}) StepFault → Added → AbstractGateway → Type 0
Step g (piece i octets) answer added new =
    IsNoLink g i answer new added
    ⊎ AtLink g i answer new (λ l told l₁. Fed (decision_of g.policy) l octets told l₁ added)
Step g (end i) answer added new = IsNoLink g i answer new added ⊎ (AtLink g i answer new Ended × (added ≡ nothing))
Step g (reload p) answer added new = Reloads g p answer new added

-- an event, what was answered to it, and what it added
pub record Turn : Type 0 where
  pub event : AbstractEvent
  pub answer : Result (Unit {0}) StepFault
  pub added : Added

-- steps one after another
abbrev pub AreSteps : AbstractGateway → List Turn → AbstractGateway → Type 0
AreSteps before [] after = after ≡ before
AreSteps before (t ∷ turns) after =
    (next : AbstractGateway) × Step before t.event t.answer t.added next × AreSteps next turns after
