-- What it means that the whole frames at the front of some octets were put.
use Rattle.std.specs.Prelude.{◌≡◌, ◌≤◌, List, ℕ, Bool, true, length, drop}
use Rattle.guard_frames.specs.declared.totals.Totals.{Totals}
use Rattle.guard_frames.specs.declared.putting.Whole.{Whole}
use Rattle.guard_frames.specs.declared.link.Closing.{Closing}
use Rattle.guard_frames.specs.declared.link.Closing.TheVariants.{OutFailed, ReportsFailed}
use Rattle.guard_frames.specs.declared.sending.Broken.{Broken}
use Rattle.guard_frames.specs.declared.sending.Broken.TheVariants.{Out, Reports}
use Rattle.guard_frames.specs.Frames.{ConsistsOf}
use Rattle.guard_frames.specs.Guarding.{BreaksOff}
use Rattle.guard_frames.specs.Totals.{next_number, counted}
use Rattle.guard_frames.specs.Outcomes.{Decision, all_going}
use Rattle.guard_frames.specs.Added.{Added, sent_more}
use Rattle.guard_frames.specs.Feeding.{Decides}
use Rattle.guard_frames.specs.Cutting.{IsRest}

-- The frames were decided in order from the totals n on, they added this, and what follows them is no whole frame.
pub record ArePut (d : Decision) (n : Totals) (octets : List ℕ) (whole : Whole) (added : Added) : Type 0 where
  pub within : whole.end ≤ length octets
  pub decided : Decides d n octets (drop whole.end octets) whole.totals added
  pub next : IsRest (drop whole.end octets) whole.rest

-- The octets are these frames, which all go, and a rest, and the totals are those after them.
abbrev pub IsCountOf : Totals → List ℕ → Totals → Type 0
IsCountOf n octets t =
    (frames : List (List ℕ)) × (rest : List ℕ) × ConsistsOf octets frames rest × (t ≡ counted n (all_going frames))

-- A sink failed at the next frame. Where it isn't that of the reports, the totals are those of the frames before, and
-- this is so of what was added and of frames that go and aren't out. Else it is so of something.
abbrev pub IsBroken : Decision → Totals → List ℕ → Broken → Added → (Added → Type 0) → Type 0
IsBroken d n octets (Out t) added So =
    (x : BreaksOff (λ _. d) (next_number n) octets added) × (t ≡ counted n x.first)
    × (lost : List ℕ) × So (sent_more added lost)
IsBroken d n octets Reports added So =
    BreaksOff (λ _. d) (next_number n) octets added × (told : Added) × So told

-- the sink that it tells of has failed
abbrev pub SinkFailed : Broken → Bool → Bool → Type 0
SinkFailed (Out t) out reports = out ≡ true
SinkFailed Reports out reports = reports ≡ true

-- this closes a link where a sink has failed, with these totals
abbrev pub ClosedBy : Broken → Closing → Totals → Type 0
ClosedBy (Out t) c m = (c ≡ OutFailed) × (m ≡ t)
ClosedBy Reports c m = c ≡ ReportsFailed
