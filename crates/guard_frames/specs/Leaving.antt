-- What a run leaves in its link, by its answer, beside what it adds; and what it told a watch.
use Rattle.std.specs.Prelude.{◌≡◌, ◌⊎◌, ℕ, List, length, Result, Ok, Err}
use Rattle.guard_frames.specs.declared.running.RunFault.{RunFault}
use Rattle.guard_frames.specs.declared.running.RunFault.TheVariants.{FrameTooLong, WriteFailed, TornFrame, ReadFailed, OutOfMemory}
use Rattle.guard_frames.specs.Bodies.{AbstractBody}
use Rattle.guard_frames.specs.Frames.{stated_length, IsUnfinished}
use Rattle.guard_frames.specs.LinkView.{AbstractLink}
use Rattle.guard_frames.specs.Outcomes.{Decision}
use Rattle.guard_frames.specs.Guarding.{Counts, BreaksOff}
use Rattle.guard_frames.specs.Added.{Added, joined, sent_more}
use Rattle.guard_frames.specs.Feeding.{Decides}
use Rattle.guard_frames.specs.Reasons.{Told, Tells, IsTold, Noted}
use Rattle.guard_frames.specs.Totals.{no_frames}
use Rattle.guard_frames.specs.declared.totals.Totals.{Totals}
use Rattle.guard_frames.specs.declared.why.Reason.{Reason}
use Rattle.guard_frames.specs.Runs.{RunsAll, RunsToEnd, IsFoundTooLong, IsTorn}

-- What is added of the octets that were read is what `Runs` says, and the link has the totals of the frames before that
-- at which the run ended, and what is left of that one. `Ended` says that the source had no more to give, and `Broken`
-- that the sink of the reports has failed: nothing is said then of the totals.
abbrev pub Leaves : Decision → List ℕ → Type 0 → Type 0 → Result (Unit {0}) RunFault → AbstractLink → Added → Type 0
Leaves d read Ended Broken (Ok done) l added = RunsToEnd d read l.totals added × Ended
Leaves d read Ended Broken (Err FrameTooLong) l added =
    (x : RunsAll d read added IsFoundTooLong) × Counts x.outcomes l.totals × (l.left ≡ stated_length x.rest)
Leaves d read Ended Broken (Err TornFrame) l added =
    (x : RunsAll d read added IsTorn) × Ended × Counts x.outcomes l.totals × (l.left ≡ length x.rest)
Leaves d read Ended Broken (Err ReadFailed) l added =
    (x : RunsAll d read added IsUnfinished) × Counts x.outcomes l.totals × (l.held ≡ x.rest)
Leaves d read Ended Broken (Err WriteFailed) l added =
    (x : BreaksOff (λ _. d) 1 read added) × (Broken ⊎ Counts x.first l.totals)
Leaves d read Ended Broken (Err OutOfMemory) l added = ⊥

-- ---- what a watch was told

-- All frames of what was read were decided then: this is what they add, and these are their totals.
abbrev pub AllDecided : Decision → List ℕ → Added → Totals → Type 0
AllDecided d read added t = (held : List ℕ) × Decides d no_frames read held t added

-- A watch was told of what was read and added, and paused where all frames of what was read so far were decided, and out
-- or reported.
abbrev pub Watched : {W : Type 0} → Decision → (Reason → List ℕ → Type 0) → (AbstractBody → ℕ → Type 0) →
    (W → Told → W → Type 0) → W → List ℕ → Added → W → Type 0
Watched d Gives Lets notes old read added new =
    (told : List Told) × Tells (AllDecided d) Gives Lets told read added × IsTold notes old told new

-- The same, where a sink failed in the last piece: it was told of what that adds, and of frames that go and aren't out.
-- `Broken` says that the sink of the reports has failed: it is known only that there was no pause then.
pub record WatchedInPart {W : Type 0} (Broken : Type 0) (d : Decision) (Gives : Reason → List ℕ → Type 0)
    (Lets : AbstractBody → ℕ → Type 0) (notes : W → Told → W → Type 0) (old : W) (read : List ℕ) (added : Added)
    (new : W) : Type 0 where
  pub front : Added
  pub back : Added
  pub split : added ≡ joined front back
  pub last : W
  pub before : Watched d Gives Lets notes old read front last
  pub told : Added
  pub ahead : Noted Gives Lets notes last told new
  pub known : Broken ⊎ ((lost : List ℕ) × (told ≡ sent_more back lost))

-- what a watch was told, by the answer
abbrev pub IsWatched : Result (Unit {0}) RunFault → Type 0 → Type 0 → Type 0
IsWatched (Ok done) Whole InPart = Whole
IsWatched (Err FrameTooLong) Whole InPart = Whole
IsWatched (Err TornFrame) Whole InPart = Whole
IsWatched (Err ReadFailed) Whole InPart = Whole
IsWatched (Err WriteFailed) Whole InPart = InPart
IsWatched (Err OutOfMemory) Whole InPart = ⊥
