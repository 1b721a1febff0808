-- What definitions see of a gateway, and of the events that happen to it.
use Rattle.std.specs.Prelude.{ℕ, List, Result, Ok, Err}
use Rattle.guard_policy.specs.Policies.{AbstractPolicy}
use Rattle.guard_frames.specs.LinkView.{AbstractLink}
use Rattle.guard_frames.specs.declared.link.LinkFault.{LinkFault}
use Rattle.guard_frames.specs.declared.gateway.StepFault.{StepFault}
use Rattle.guard_frames.specs.declared.gateway.StepFault.TheVariants.{Link}

-- the policy in force, and the links by their numbers, from 0
pub record AbstractGateway : Type 0 where
  pub policy : AbstractPolicy
  pub links : List AbstractLink

pub data AbstractEvent : Type 0 where
  -- octets of this link
  piece : ℕ → List ℕ → AbstractEvent
  -- the end of this link's stream
  end : ℕ → AbstractEvent
  -- a new policy
  reload : AbstractPolicy → AbstractEvent

-- the answer of a link, as the answer to an event
abbrev pub step_answer : Result (Unit {0}) LinkFault → Result (Unit {0}) StepFault
step_answer (Ok done) = Ok done
step_answer (Err fault) = Err (Link fault)
