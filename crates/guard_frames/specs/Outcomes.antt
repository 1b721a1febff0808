-- What becomes of each frame of a stream: it goes out, or it stays.
use Rattle.std.specs.Prelude.{ℕ, Bool, true, false, List, drop, map, IfSome}
use Rattle.guard_policy.specs.declared.verdict.PlainReason.{PlainReason}
use Rattle.guard_frames.specs.Bodies.{AbstractBody, IsBody}
use Rattle.guard_frames.specs.declared.decision.Decided.{Decided}
use Rattle.guard_frames.specs.declared.decision.Decided.TheVariants.{Goes, Stays}
use Rattle.guard_frames.specs.declared.decision.Known.{Known}
use Rattle.guard_frames.specs.declared.decision.Known.TheVariants.{BadHeader, Named}

-- What is decided of a body: whether it goes, and the report line, with the frame's number, of one that stays.
pub record Decision : Type 1 where
  pub LetsGo : AbstractBody → Type 0
  pub Reports : ℕ → AbstractBody → List ℕ → Type 0

-- octets go where they are three names and a message, and the body that these make is decided to go
pub record BodyGoes (d : Decision) (octets : List ℕ) : Type 0 where
  pub body : AbstractBody
  pub is : IsBody octets body
  pub decided : d.LetsGo body

-- The octets are a body that goes by this rule; `Lets` says by which rule a body goes.
abbrev pub GoesBy : (AbstractBody → ℕ → Type 0) → List ℕ → ℕ → Type 0
GoesBy Lets octets rule = (b : AbstractBody) × IsBody octets b × Lets b rule

-- What is known of octets that stay is so: they are no three names and a message; or they are, this body is decided to
-- stay, and a reason that is told is that of the body.
abbrev pub IsKnown : Decision → (AbstractBody → PlainReason → Type 0) → List ℕ → Known → Type 0
IsKnown d ReasonsOf octets BadHeader = (b : AbstractBody) → IsBody octets b → ⊥
IsKnown d ReasonsOf octets (Named reason) =
    (b : AbstractBody) × IsBody octets b × (d.LetsGo b → ⊥) × IfSome reason (ReasonsOf b)

-- What was decided of the octets of a body is right: they go, by this rule; or they stay, and what is known of them is so.
abbrev pub IsDecided : Decision → (AbstractBody → ℕ → Type 0) → (AbstractBody → PlainReason → Type 0) → List ℕ →
    Decided → Type 0
IsDecided d Lets ReasonsOf octets (Goes rule) = BodyGoes d octets × GoesBy Lets octets rule
IsDecided d Lets ReasonsOf octets (Stays known) = IsKnown d ReasonsOf octets known

-- a frame goes where what follows its four octets of length goes
abbrev pub FrameGoes : Decision → List ℕ → Type 0
FrameGoes d frame = BodyGoes d (drop 4 frame)

-- a frame, and whether it goes out
pub record Outcome : Type 0 where
  pub frame : List ℕ
  pub goes : Bool

abbrev pub going : List ℕ → Outcome
going f = record { frame = f; goes = true }

abbrev pub staying : List ℕ → Outcome
staying f = record { frame = f; goes = false }

-- frames that all go
abbrev pub all_going : List (List ℕ) → List Outcome
all_going frames = map going frames

abbrev pub frames_of : List Outcome → List (List ℕ)
frames_of outcomes = map (λ o. o.frame) outcomes
