-- What one piece does to an open link, and what it adds.
use Rattle.std.specs.Prelude.{◌≡◌, ℕ, false, List, Result, Ok, Err}
use Rattle.guard_frames.specs.declared.totals.Totals.{Totals}
use Rattle.guard_frames.specs.Added.{Added}
use Rattle.guard_frames.specs.LinkView.{AbstractLink, IsShut}
use Rattle.guard_frames.specs.declared.link.LinkFault.{LinkFault}
use Rattle.guard_frames.specs.declared.link.LinkFault.TheVariants.{FrameTooLong, WriteFailed, Closed, TornFrame}
use Rattle.guard_frames.specs.Frames.{stated_length, IsUnfinished, IsTooLong, ConsistsOf}
use Rattle.guard_frames.specs.Totals.{next_number, counted}
use Rattle.guard_frames.specs.Outcomes.{Decision, Outcome, frames_of}
use Rattle.guard_frames.specs.Guarding.{text_out, AllAdd, BreaksOff}

-- The frames of the stream were decided, and this is the rest; n and m are the totals before and after.
pub record Decides (d : Decision) (n : Totals) (stream rest : List ℕ) (m : Totals) (added : Added) : Type 0 where
  pub outcomes : List Outcome
  pub split : ConsistsOf stream (frames_of outcomes) rest
  pub out : added.out ≡ text_out outcomes
  pub reports : AllAdd (λ _. d) (next_number n) outcomes added.reports
  pub totals : m ≡ counted n outcomes

-- The frames of the stream were decided up to a length that no frame may have.
pub record DecidesUntilTooLong (d : Decision) (n : Totals) (stream : List ℕ) (m : Totals) (added : Added) : Type 0 where
  pub rest : List ℕ
  pub decided : Decides d n stream rest m added
  pub too_long : IsTooLong rest

-- What an open link does with the stream that it has come to, by its answer; n are the totals before that stream. After
-- a fault it takes no more and holds nothing, and of a length that no frame may have it keeps which one that is.
abbrev pub Takes : Decision → Totals → List ℕ → AbstractLink → Result (Unit {0}) LinkFault → Added → Type 0
Takes d n stream new (Ok done) added =
    Decides d n stream new.held new.totals added × IsUnfinished new.held × (new.closed ≡ false) × (new.left ≡ 0)
Takes d n stream new (Err FrameTooLong) added =
    (x : DecidesUntilTooLong d n stream new.totals added) × IsShut new × (new.left ≡ stated_length x.rest)
Takes d n stream new (Err WriteFailed) added =
    BreaksOff (λ _. d) (next_number n) stream added × IsShut new × (new.left ≡ 0)
Takes d n stream new (Err Closed) added = ⊥
Takes d n stream new (Err TornFrame) added = ⊥
