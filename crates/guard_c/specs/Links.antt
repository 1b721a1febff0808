-- What calls do to a handle that holds a link. `old` and `new` are what it holds before a call and after it.
use Rattle.std.specs.Prelude.{◌≡◌, ◌≢◌, ◌<◌, ◌≤◌, ◌+◌, ◌⊎◌, ℕ, List, [], ◌++◌, length, Option, None, Some, IsSomeAnd, Result, Ok, Err}
use Rattle.guard_policy.specs.Policies.{AbstractPolicy}
use Rattle.guard_frames.specs.Added.{Added}
use Rattle.guard_frames.specs.LinkSteps.{Fed, Ended}
use Rattle.guard_frames.specs.OfPolicy.{decision_of}
use Rattle.guard_frames.specs.declared.link.LinkFault.{LinkFault}
use Rattle.guard_frames.specs.declared.link.LinkFault.TheVariants as fault
use Rattle.guard_c.specs.declared.held.Held.{Held}
use Rattle.guard_c.specs.declared.status.Status.{Status}
use Rattle.guard_c.specs.declared.status.Status.TheVariants.{Done, OutOfMemory, NoPolicy, NoLink, TooSmall, FrameTooLong, WriteFailed, Closed, TornFrame}
use Rattle.guard_c.specs.Holding.{AbstractHeldLink, link_of, new_held_link}
use Rattle.guard_c.specs.Telling.{IsPut, Tells}

-- how a call ends whose link answered so
abbrev pub status_of : Result (Unit {0}) LinkFault → Status
status_of (Ok done) = Done
status_of (Err fault.FrameTooLong) = FrameTooLong
status_of (Err fault.WriteFailed) = WriteFailed
status_of (Err fault.Closed) = Closed
status_of (Err fault.TornFrame) = TornFrame

-- The handle holds no link, and stays.
pub record IsNoLink (old new : Option Held) (status : Status) : Type 0 where
  pub none : link_of old ≡ None
  pub same : new ≡ old
  pub told : status ≡ NoLink

-- The handle holds a link, and this is done to the link.
pub record AtLink (old new : Option Held) (Does : AbstractHeldLink → AbstractHeldLink → Type 0) : Type 0 where
  pub link : AbstractHeldLink
  pub there : link_of old ≡ Some link
  pub after : AbstractHeldLink
  pub holds : link_of new ≡ Some after
  pub does : Does link after

-- ---- a new link

abbrev pub HasOpened : Option Held → Option Held → Status → Type 0
HasOpened old new Done = link_of new ≡ Some new_held_link
HasOpened old new OutOfMemory = new ≡ old
HasOpened old new _ = ⊥

-- ---- a piece of its stream

-- There might be more frames that go than room for them, so nothing is done.
pub record IsUnfed (l : AbstractHeldLink) (piece : List ℕ) (l₁ : AbstractHeldLink) (room : ℕ) (sent : List ℕ)
    (status : Status) : Type 0 where
  pub small : room < length l.link.held + length piece
  pub same : l₁ ≡ l
  pub unsent : sent ≡ []
  pub told : status ≡ TooSmall

-- The link took the piece. The frames that go are sent, all of them, and the lines of the others stand after those that
-- weren't fetched.
pub record TookPiece (p : AbstractPolicy) (l : AbstractHeldLink) (piece : List ℕ) (l₁ : AbstractHeldLink) (room : ℕ)
    (sent : List ℕ) (status : Status) : Type 0 where
  pub answer : Result (Unit {0}) LinkFault
  pub added : Added
  pub does : Fed (decision_of p) l.link piece answer l₁.link added
  pub sends : sent ≡ added.out
  pub reported : l₁.reports ≡ l.reports ++ added.reports
  pub large : length l.link.held + length piece ≤ room
  pub fits : length sent ≤ room
  pub told : status ≡ status_of answer

abbrev pub FeedsLink : AbstractPolicy → AbstractHeldLink → List ℕ → AbstractHeldLink → ℕ → List ℕ → Status → Type 0
FeedsLink p l piece l₁ room sent status =
    IsUnfed l piece l₁ room sent status ⊎ TookPiece p l piece l₁ room sent status

-- A piece was to be fed to a link under a policy, with so much room for the frames that go.
abbrev pub HasFed : Option AbstractPolicy → Option Held → List ℕ → Option Held → ℕ → List ℕ → Status → Type 0
HasFed policy old piece new room sent status =
    ((status ≡ NoPolicy) × (policy ≡ None) × (new ≡ old) × (sent ≡ []))
    ⊎ ((policy ≢ None) × IsNoLink old new status × (sent ≡ []))
    ⊎ IsSomeAnd policy (λ p. AtLink old new (λ l l₁. FeedsLink p l piece l₁ room sent status))

-- ---- the lines of its frames

-- The lines that weren't fetched are told, and are dropped where all of them fit.
pub record Reports (l l₁ : AbstractHeldLink) (buffer out : List ℕ) (needed : ℕ) (status : Status) : Type 0 where
  pub told : Tells (Ok l.reports) buffer out needed status
  pub dropped : status ≡ Done → l₁ ≡ record l { reports = [] }
  pub kept : status ≡ TooSmall → l₁ ≡ l

abbrev pub HasReported : Option Held → Option Held → List ℕ → List ℕ → ℕ → Status → Type 0
HasReported old new buffer out needed status =
    (IsNoLink old new status × IsPut [] buffer out needed)
    ⊎ AtLink old new (λ l l₁. Reports l l₁ buffer out needed status)

-- ---- the end of its stream

-- The lines that weren't fetched stay.
pub record EndsLink (l l₁ : AbstractHeldLink) (status : Status) : Type 0 where
  pub answer : Result (Unit {0}) LinkFault
  pub does : Ended l.link answer l₁.link
  pub reports : l₁.reports ≡ l.reports
  pub told : status ≡ status_of answer

abbrev pub HasEnded : Option Held → Option Held → Status → Type 0
HasEnded old new status = IsNoLink old new status ⊎ AtLink old new (λ l l₁. EndsLink l l₁ status)
