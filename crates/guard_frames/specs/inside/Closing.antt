-- What a piece does to an open link, before what goes wrong closes it.
use Rattle.std.specs.Prelude.{◌≡◌, ℕ, Bool, true, List, Result, Ok, Err}
use Rattle.guard_frames.specs.declared.totals.Totals.{Totals}
use Rattle.guard_frames.specs.Added.{Added, sent_more}
use Rattle.guard_frames.specs.declared.link.LinkFault.{LinkFault}
use Rattle.guard_frames.specs.declared.link.LinkFault.TheVariants as link
use Rattle.guard_frames.specs.declared.link.Closing.{Closing}
use Rattle.guard_frames.specs.declared.link.Closing.TheVariants.{FrameTooLong, OutFailed, ReportsFailed, TornFrame}
use Rattle.guard_frames.specs.declared.running.RunFault.{RunFault}
use Rattle.guard_frames.specs.declared.running.RunFault.TheVariants as run
use Rattle.guard_frames.specs.Frames.{stated_length, IsUnfinished}
use Rattle.guard_frames.specs.Totals.{next_number, counted}
use Rattle.guard_frames.specs.Outcomes.{Decision}
use Rattle.guard_frames.specs.Guarding.{BreaksOff}
use Rattle.guard_frames.specs.Feeding.{Decides, DecidesUntilTooLong}

-- what closes a link, as its fault, and as that of a run
abbrev pub link_fault : Closing → LinkFault
link_fault (FrameTooLong size) = link.FrameTooLong
link_fault OutFailed = link.WriteFailed
link_fault ReportsFailed = link.WriteFailed
link_fault (TornFrame count) = link.TornFrame

abbrev pub run_fault : Closing → RunFault
run_fault (FrameTooLong size) = run.FrameTooLong
run_fault OutFailed = run.WriteFailed
run_fault ReportsFailed = run.WriteFailed
run_fault (TornFrame count) = run.TornFrame

-- what it leaves of the frame behind the last whole one
abbrev pub left_by : Closing → ℕ
left_by (FrameTooLong size) = size
left_by OutFailed = 0
left_by ReportsFailed = 0
left_by (TornFrame count) = count

-- What comes of the stream that an open link has come to, by the answer: what it holds then and its totals, n before
-- that stream and m after it.
abbrev pub Puts : Decision → Totals → List ℕ → List ℕ → Totals → Result (Unit {0}) Closing → Added → Type 0
Puts d n stream held m (Ok done) added = Decides d n stream held m added × IsUnfinished held
Puts d n stream held m (Err (FrameTooLong size)) added =
    (x : DecidesUntilTooLong d n stream m added) × (size ≡ stated_length x.rest)
Puts d n stream held m (Err OutFailed) added =
    (x : BreaksOff (λ _. d) (next_number n) stream added) × (m ≡ counted n x.first)
Puts d n stream held m (Err ReportsFailed) added = BreaksOff (λ _. d) (next_number n) stream added
Puts d n stream held m (Err (TornFrame count)) added = ⊥

-- the sink of whose failure it tells has failed
abbrev pub HasFailed : Closing → Bool → Bool → Type 0
HasFailed (FrameTooLong size) out reports = Unit {0}
HasFailed OutFailed out reports = out ≡ true
HasFailed ReportsFailed out reports = reports ≡ true
HasFailed (TornFrame count) out reports = Unit {0}

-- This is so of what was added; or of that and of frames that go and aren't out, where their sink has failed; or of
-- something, where that of the reports has.
abbrev pub NotedBy : Result (Unit {0}) Closing → (Added → Type 0) → Added → Type 0
NotedBy (Ok done) So added = So added
NotedBy (Err (FrameTooLong size)) So added = So added
NotedBy (Err OutFailed) So added = (lost : List ℕ) × So (sent_more added lost)
NotedBy (Err ReportsFailed) So added = (told : Added) × So told
NotedBy (Err (TornFrame count)) So added = So added
