-- What is counted of a stream of frames, and shown where `run` is asked for that: each text that is shown counts the
-- frames that were decided before. With Counters.antt this is the page to read of that.
use Rattle.std.specs.Prelude.{◌≡◌, ◌⊎◌, ℕ, Bool, true, false, List, ◌++◌, length, string_bytes, Option, option_map, Result, Ok, Err}
use Rattle.std.specs.List.{All}
use Rattle.guard_policy.specs.Policies.{AbstractPolicy}
use Rattle.guard_frames.specs.declared.running.RunFault.{RunFault}
use Rattle.guard_frames.specs.declared.running.RunFault.TheVariants.{FrameTooLong, WriteFailed, TornFrame, ReadFailed, OutOfMemory}
use Rattle.guard_frames.specs.declared.link.LinkFault.TheVariants as link_fault
use Rattle.guard_frames.specs.declared.totals.Totals.{Totals}
use Rattle.guard_frames.specs.declared.why.Why.{Why}
use Rattle.guard_frames.specs.Added.{Added, joined}
use Rattle.guard_frames.specs.Guarding.{Counts as Count}
use Rattle.guard_frames.specs.Leaving.{IsWatched}
use Rattle.guard_frames.specs.OfPolicy.{decision_of}
use Rattle.guard_frames.specs.Reasons.{Told as Saying}
use Rattle.guard_frames.specs.Reasons.Told.{pauses, reads, goes, stays}
use Rattle.guard_frames.specs.Runs.{RunsAll}
use Rattle.guard_frames.specs.Totals.{later}
use Rattle.guard_streams.specs.declared.counters.Counters.{Counters}
use Rattle.guard_streams.specs.declared.counts.Counts.{Counts}
use Rattle.guard_streams.specs.declared.faults.Faults.{Faults}
use Rattle.guard_streams.specs.Allowed.{AreLet}
use Rattle.guard_streams.specs.Counted.{no_counts, count_all, AreSaid}
use Rattle.guard_streams.specs.Counters.{AbstractForce, AbstractCounted, counted_view, counted_one, force_of, deny_all, allow_all, nothing_counted, counters_text}
use Rattle.guard_streams.specs.Faults.{no_faults, faulted}
use Rattle.guard_streams.specs.Shown.{Shown, Display, ShowsAt, ShowsAll}

-- ---- counters

-- what is counted, and the path at which it is shown, where it is
pub record AbstractCounters : Type 0 where
  pub path : Option (List ℕ)
  pub counted : AbstractCounted

abbrev pub counters_view : {B : Type 0} → Counters B → AbstractCounters
counters_view c = record { path = option_map string_bytes c.path; counted = counted_view c.counted }

abbrev pub text_of : AbstractCounters → List ℕ
text_of c = counters_text c.counted

-- before the first frame
abbrev pub fresh_counters : Option (List ℕ) → AbstractForce → AbstractCounters
fresh_counters path force = record { path = path; counted = nothing_counted force }

abbrev pub counters_one : AbstractCounters → Saying → AbstractCounters
counters_one c told = record { path = c.path; counted = counted_one c.counted told }

abbrev pub ended : AbstractCounters → Totals → Faults → AbstractCounters
ended c totals faults = record c {
  counted = record c.counted {
    tally = record c.counted.tally { totals = totals; faults = faults };
  };
}

-- what they show before and after
abbrev pub display_of : {B : Type 0} → (B → Shown) → Counters B → Counters B → Display
display_of shown old new = record { before = shown old.board; after = shown new.board; is_shown = new.is_shown }

-- All that is counted is shown then, or nothing is, as it says.
pub record IsShowing {B : Type 0} (shown : B → Shown) (old new : Counters B) : Type 0 where
  pub yes : new.is_shown ≡ true →
      ShowsAt (shown old.board) (counters_view new).path (text_of (counters_view new)) (shown new.board)
  pub no : new.is_shown ≡ false → shown new.board ≡ shown old.board

-- At a pause, and only then, what is counted may be shown.
abbrev pub MayShow : {B : Type 0} → (B → Shown) → Saying → Counters B → Counters B → Type 0
MayShow shown (pauses t) old new =
    (shown new.board ≡ shown old.board)
    ⊎ ShowsAt (shown old.board) (counters_view new).path (text_of (counters_view new)) (shown new.board)
MayShow shown (reads n) old new = shown new.board ≡ shown old.board
MayShow shown (goes count n rule) old new = shown new.board ≡ shown old.board
MayShow shown (stays why) old new = shown new.board ≡ shown old.board

-- what counters are told is counted
pub record IsTelling {B : Type 0} (shown : B → Shown) (old : Counters B) (told : Saying) (new : Counters B) : Type 0 where
  pub counts : counters_view new ≡ counters_one (counters_view old) told
  pub shows : MayShow shown told old new

-- ---- what is counted of a stream

-- Of the frames that added this it is counted why those stay that do, which rules denied them, and by which rules the
-- others go.
pub record CountsFrames (p : AbstractPolicy) (old_counts : Counts) (old_force : AbstractForce) (added : Added)
    (new_counts : Counts) (new_force : AbstractForce) : Type 0 where
  pub whys : List Why
  pub said : AreSaid p whys added.reports
  pub counts : new_counts ≡ count_all old_counts whys
  pub rules : List ℕ
  pub by : AreLet p rules added.out
  pub force : new_force ≡ allow_all (deny_all old_force whys) rules

-- All frames of what was read were decided and are out or reported, and this counts them, and how many there are; and its
-- link had these faults.
pub record IsTally (p : AbstractPolicy) (digest read : List ℕ) (added : Added) (faults : Faults) (c : AbstractCounted)
    : Type 0 where
  pub all : RunsAll (decision_of p) read added (λ rest. Unit {0})
  pub totals : Count all.outcomes c.tally.totals
  pub frames : CountsFrames p no_counts (force_of p digest) added c.tally.counts c.force
  pub came : c.tally.came ≡ later 0 (length read)
  pub went : c.tally.went ≡ later 0 (length added.out)
  pub reloads : c.tally.reloads ≡ 0
  pub had : c.tally.faults ≡ faults

-- The text counts all of what was read and added up to a place between two frames.
pub record IsShownOf (p : AbstractPolicy) (digest read : List ℕ) (added : Added) (text : List ℕ) : Type 0 where
  pub before : List ℕ
  pub after : List ℕ
  pub read_is : read ≡ before ++ after
  pub front : Added
  pub back : Added
  pub added_is : added ≡ joined front back
  pub counted : AbstractCounted
  pub is : IsTally p digest before front no_faults counted
  pub text_is : text ≡ counters_text counted

-- a link ends with a fault where its stream does
abbrev pub faults_of : Result (Unit {0}) RunFault → Faults
faults_of (Ok done) = no_faults
faults_of (Err FrameTooLong) = faulted no_faults (Err link_fault.FrameTooLong)
faults_of (Err TornFrame) = faulted no_faults (Err link_fault.TornFrame)
faults_of (Err ReadFailed) = no_faults
faults_of (Err WriteFailed) = no_faults
faults_of (Err OutOfMemory) = no_faults

-- The text counts all of what was read and added.
abbrev pub IsLastOf : AbstractPolicy → List ℕ → List ℕ → Added → Faults → List ℕ → Type 0
IsLastOf p digest read added faults text =
    (c : AbstractCounted) × IsTally p digest read added faults c × (text ≡ counters_text c)

-- Where it could be, a last text is shown.
abbrev pub ShowsLast : (List ℕ → Type 0) → Option (List ℕ) → Bool → Shown → Shown → Type 0
ShowsLast IsLast place true old new = (text : List ℕ) × IsLast text × ShowsAt old place text new
ShowsLast IsLast place false old new = new ≡ old

-- At first, where that could be, it is shown that nothing is counted yet, and at the end all that is counted; in between,
-- now and then, what is counted then. Where an output failed nothing is shown at the end.
pub record ShowsCounts (p : AbstractPolicy) (digest : List ℕ) (place : Option (List ℕ)) (read : List ℕ) (added : Added)
    (result : Result (Unit {0}) RunFault) (is_first : Bool) (display : Display) : Type 0 where
  pub first : Shown
  pub begins : ShowsLast (λ text. text ≡ text_of (fresh_counters place (force_of p digest))) place is_first
      display.before first
  pub texts : List (List ℕ)
  pub last : Shown
  pub shows : ShowsAll place first texts last
  pub each : All (IsShownOf p digest read added) texts
  pub ends : IsWatched result
      (ShowsLast (IsLastOf p digest read added (faults_of result)) place display.is_shown last display.after)
      (display.after ≡ last)
