-- What a run leaves in its link where that is closed.
use Rattle.std.proofs.Common.{◌≡◌, ◌<◌, ◌+◌, ◌⊎◌, inl, inr, ap, sym, refl, subst, ℕ, Bool, true, List, ◌∙◌, length}
use Rattle.std.specs.Prelude.{Result, Err}
use Rattle.guard_frames.specs.declared.totals.Totals.{Totals}
use Rattle.guard_frames.specs.declared.running.RunFault.{RunFault}
use Rattle.guard_frames.specs.declared.running.RunFault.TheVariants as run
use Rattle.guard_frames.specs.declared.link.Closing.{Closing}
use Rattle.guard_frames.specs.declared.link.Closing.TheVariants.{FrameTooLong, OutFailed, ReportsFailed, TornFrame}
use Rattle.guard_frames.specs.Bodies.{AbstractBody}
use Rattle.guard_frames.specs.Frames.{IsTooLong, ConsistsOf}
use Rattle.guard_frames.specs.LinkView.{AbstractLink}
use Rattle.guard_frames.specs.Totals.{no_frames}
use Rattle.guard_frames.specs.Outcomes.{Decision, frames_of}
use Rattle.guard_frames.specs.Added.{Added, joined, sent_more}
use Rattle.guard_frames.specs.Feeding.{Decides}
use Rattle.guard_frames.specs.Runs.{RunsAll, Runs, IsFoundTooLong}
use Rattle.guard_frames.specs.Leaving.{Leaves, Watched, WatchedInPart, IsWatched}
use Rattle.guard_frames.specs.Reasons.{Told, Noted}
use Rattle.guard_frames.specs.declared.why.Reason.{Reason}
use Rattle.guard_frames.specs.inside.Closing.{run_fault, left_by, Puts, HasFailed, NotedBy}
use Rattle.guard_frames.specs.inside.Putting.{IsBroken, ClosedBy, SinkFailed}
use Rattle.guard_frames.specs.declared.sending.Broken.{Broken}
use Rattle.guard_frames.specs.declared.sending.Broken.TheVariants.{Out, Reports}
use Rattle.guard_frames.proofs.Counting.{counts}
use Rattle.guard_frames.proofs.Noting.{watched_on}

abbrev pub runs_all : (d : Decision) (read rest : List ℕ) (m : Totals) (a : Added) (Last : List ℕ → Type 0) → Decides d no_frames read rest m a → Last rest → RunsAll d read a Last
runs_all d read rest m a Last x last = record { outcomes = x.outcomes; rest = rest; split = x.split; out = x.out; reports = x.reports; last = last }

-- the rest is short where it begins with a length that no frame may have
pub leaves_closed : (d : Decision) (l : AbstractLink) (read held : List ℕ) (closing : Closing) (a : Added) (Ended : Type 0) (o r : Bool) →
    ((rest : List ℕ) (frames : List (List ℕ)) → ConsistsOf read frames rest → IsTooLong rest → length rest < 4 + 65536) →
    Puts d no_frames read held l.totals (Err closing) a → l.left ≡ left_by closing → HasFailed closing o r →
    Leaves d read Ended (r ≡ true) (Err (run_fault closing)) l a
leaves_closed d l read held (FrameTooLong size) a Ended o r soon h left failed = (
  runs_all d read h.0.rest l.totals a IsFoundTooLong h.0.decided
      (record { too_long = h.0.too_long; at_once = soon h.0.rest (frames_of h.0.decided.outcomes) h.0.decided.split h.0.too_long }),
  counts h.0.decided.outcomes l.totals h.0.decided.totals,
  left ∙ h.1,
)
leaves_closed d l read held OutFailed a Ended o r soon h left failed = (h.0, inr (counts h.0.first l.totals h.1))
leaves_closed d l read held ReportsFailed a Ended o r soon h left failed = (h, inl failed)
leaves_closed d l read held (TornFrame count) a Ended o r soon h left failed = absurd h

-- what a watch was told then
pub watched_closed : {W : Type 0} (Gives : Reason → List ℕ → Type 0) (Lets : AbstractBody → ℕ → Type 0) (notes : W → Told → W → Type 0) (d : Decision) (old last new : W)
    (closing : Closing) (read : List ℕ) (front back : Added) (o r : Bool) → HasFailed closing o r → Watched d Gives Lets notes old read front last →
    NotedBy (Err closing) (λ z. Noted Gives Lets notes last z new) back → IsWatched (Err (run_fault closing))
    (Watched d Gives Lets notes old read (joined front back) new) (WatchedInPart (r ≡ true) d Gives Lets notes old read (joined front back) new)
watched_closed {W} Gives Lets notes d old last new (FrameTooLong size) read front back o r failed p h =
    watched_on W Gives Lets notes d old last new read front back p h
watched_closed {W} Gives Lets notes d old last new OutFailed read front back o r failed p h =
    record { front = front; back = back; split = refl; last = last; before = p; told = sent_more back h.0; ahead = h.1; known = inr (h.0, refl) }
watched_closed {W} Gives Lets notes d old last new ReportsFailed read front back o r failed p h =
    record { front = front; back = back; split = refl; last = last; before = p; told = h.0; ahead = h.1; known = inl failed }
watched_closed {W} Gives Lets notes d old last new (TornFrame count) read front back o r failed p h =
    watched_on W Gives Lets notes d old last new read front back p h

pub write_failed : (closing : Closing) (o r : Bool) → HasFailed closing o r
    → ◌≡◌ {A = Result (Unit {0}) RunFault} (Err (run_fault closing)) (Err run.WriteFailed) → (o ≡ true) ⊎ (r ≡ true)
write_failed (FrameTooLong size) o r h e = absurd cc
write_failed OutFailed o r h e = inl h
write_failed ReportsFailed o r h e = inr h
write_failed (TornFrame count) o r h e = absurd cc

-- what a run adds
pub runs_alone : (d : Decision) (read : List ℕ) (Ended Lost : Type 0) (fault : RunFault) (l : AbstractLink) (a : Added) →
    Leaves d read Ended Lost (Err fault) l a → Runs d read Ended (Err fault) a
runs_alone d read Ended Lost run.FrameTooLong l a h = h.0
runs_alone d read Ended Lost run.TornFrame l a h = (h.0, h.1)
runs_alone d read Ended Lost run.ReadFailed l a h = h.0
runs_alone d read Ended Lost run.WriteFailed l a h = h.0
runs_alone d read Ended Lost run.OutOfMemory l a h = absurd h

-- there was memory
pub never_out : (d : Decision) (read : List ℕ) (Ended Lost : Type 0) (fault : RunFault) (l : AbstractLink) (a : Added) →
    Leaves d read Ended Lost (Err fault) l a → ◌≡◌ {A = Result Totals RunFault} (Err fault) (Err run.OutOfMemory) → ⊥
never_out d read Ended Lost run.FrameTooLong l a h e = absurd cc
never_out d read Ended Lost run.TornFrame l a h e = absurd cc
never_out d read Ended Lost run.ReadFailed l a h e = absurd cc
never_out d read Ended Lost run.WriteFailed l a h e = absurd cc
never_out d read Ended Lost run.OutOfMemory l a h e = h

pub same_fault : (f k : RunFault) → ◌≡◌ {A = Result Totals RunFault} (Err f) (Err k) → ◌≡◌ {A = Result (Unit {0}) RunFault} (Err f) (Err k)
same_fault f k e = let same : f ≡ k = cc in ap (λ (x : RunFault). Err x) same

-- ---- what closes it where a sink has failed

pub broken_noted : (d : Decision) (n m : Totals) (s : List ℕ) (b : Broken) (closing : Closing) (a : Added) (So : Added → Type 0) → IsBroken d n s b a So →
    ClosedBy b closing m → NotedBy (Err closing) So a
broken_noted d n m s (Out t) closing a So x is =
    subst (λ (c : Closing). NotedBy (Err c) So a) (sym is.0) (x.2, x.3)
broken_noted d n m s Reports closing a So x is = subst (λ (c : Closing). NotedBy (Err c) So a) (sym is) (x.1, x.2)

pub broken_failed : (b : Broken) (closing : Closing) (m : Totals) (o r : Bool) → SinkFailed b o r → ClosedBy b closing m → HasFailed closing o r
broken_failed (Out t) closing m o r h is = subst (λ (c : Closing). HasFailed c o r) (sym is.0) h
broken_failed Reports closing m o r h is = subst (λ (c : Closing). HasFailed c o r) (sym is) h
