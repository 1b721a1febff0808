-- What a piece, or the end of its stream, does to a link, open or closed.
use Rattle.std.specs.Prelude.{◌≡◌, ◌<◌, ◌⊎◌, ℕ, true, false, List, [], ◌++◌, length, Result, Ok, Err}
use Rattle.guard_frames.specs.declared.link.LinkFault.{LinkFault}
use Rattle.guard_frames.specs.declared.link.LinkFault.TheVariants.{Closed, TornFrame}
use Rattle.guard_frames.specs.LinkView.{AbstractLink, IsShut}
use Rattle.guard_frames.specs.Outcomes.{Decision}
use Rattle.guard_frames.specs.Added.{Added, nothing}
use Rattle.guard_frames.specs.Feeding.{Takes}

-- A closed link answers so, and stays as it is.
pub record Refuses (l : AbstractLink) (answer : Result (Unit {0}) LinkFault) (new : AbstractLink) : Type 0 where
  pub closed : l.closed ≡ true
  pub answered : answer ≡ Err Closed
  pub same : new ≡ l

-- what a piece does to a link
abbrev pub Fed : Decision → AbstractLink → List ℕ → Result (Unit {0}) LinkFault → AbstractLink → Added → Type 0
Fed d l octets answer new added =
    (Refuses l answer new × (added ≡ nothing))
    ⊎ ((l.closed ≡ false) × Takes d l.totals (l.held ++ octets) new answer added)

-- The end of an open link's stream closes it. It is torn where a frame had begun, and how many octets of that there were
-- is kept.
pub record Closes (l : AbstractLink) (answer : Result (Unit {0}) LinkFault) (new : AbstractLink) : Type 0 where
  pub open_before : l.closed ≡ false
  pub torn : 0 < length l.held → answer ≡ Err TornFrame
  pub whole : l.held ≡ [] → answer ≡ Ok tt
  pub shut : IsShut new
  pub totals : new.totals ≡ l.totals
  pub left : new.left ≡ length l.held

-- what the end of its stream does to a link
abbrev pub Ended : AbstractLink → Result (Unit {0}) LinkFault → AbstractLink → Type 0
Ended l answer new = Refuses l answer new ⊎ Closes l answer new
