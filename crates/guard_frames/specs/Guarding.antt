-- What comes of frames under any decision: what goes out, and what is reported.
use Rattle.std.specs.Prelude.{◌≡◌, ◌⊎◌, suc, ℕ, true, false, List, [], ◌∷◌, ◌++◌, drop, length, if◌then◌else◌, codes, decimal}
use Rattle.std.specs.List.{concat, All, filter}
use Rattle.guard_frames.specs.declared.totals.Totals.{Totals}
use Rattle.guard_frames.specs.Frames.{IsFrame}
use Rattle.guard_frames.specs.Bodies.{AbstractBody, IsBody}
use Rattle.guard_frames.specs.Totals.{later}
use Rattle.guard_frames.specs.Outcomes.{Decision, FrameGoes, Outcome, staying, frames_of}
use Rattle.guard_frames.specs.Added.{Added}
use Rattle.guard_frames.specs.Prefix.{IsProperPrefix}

-- ---- what goes out

-- the frames that go, joined
abbrev pub text_out : List Outcome → List ℕ
text_out outcomes = concat (frames_of (filter (λ o. o.goes) outcomes))

-- ---- what is reported: a frame and the line that it adds, in three cases

-- The frame goes: it is three names and a message, and is decided to go. No line is reported of it.
pub record GoesOut (d : Decision) (o : Outcome) (line : List ℕ) : Type 0 where
  pub out : o.goes ≡ true
  pub goes : FrameGoes d o.frame
  pub text : line ≡ []

-- The frame stays, since it is decided to stay: its line has the reason, or says that there was no memory for it.
pub record StaysDecided (d : Decision) (n : ℕ) (o : Outcome) (line : List ℕ) : Type 0 where
  pub stays : o.goes ≡ false
  pub body : AbstractBody
  pub is : IsBody (drop 4 o.frame) body
  pub decided : d.LetsGo body → ⊥
  pub text : d.Reports n body line ⊎ (line ≡ decimal n ++ codes " no-memory\n")

-- The frame stays, since it isn't three names and a message.
pub record StaysBadHeader (n : ℕ) (o : Outcome) (line : List ℕ) : Type 0 where
  pub stays : o.goes ≡ false
  pub none : (body : AbstractBody) → IsBody (drop 4 o.frame) body → ⊥
  pub text : line ≡ decimal n ++ codes " bad-header\n"

-- the line that the frame of number n adds to the reports
abbrev pub Adds : Decision → ℕ → Outcome → List ℕ → Type 0
Adds d n o line = GoesOut d o line ⊎ StaysDecided d n o line ⊎ StaysBadHeader n o line

-- The lines that frames numbered on from n add, in order. Each frame has a decision of its own, since a policy may be
-- replaced between two frames: `decisions k` is that of the frame with k of these before it. Where nothing is replaced
-- all have one decision d, `λ _. d`.
abbrev pub AllAdd : (ℕ → Decision) → ℕ → List Outcome → List ℕ → Type 0
AllAdd decisions n [] text = text ≡ []
AllAdd decisions n (o ∷ outcomes) text = (line : List ℕ) × (lines : List ℕ) × (text ≡ line ++ lines)
    × Adds (decisions 0) n o line × AllAdd (λ k. decisions (suc k)) (later n 1) outcomes lines

-- ---- how many

-- how many frames there are, how many of them go, and how many stay
pub record Counts (outcomes : List Outcome) (t : Totals) : Type 0 where
  pub all : t.frames ≡ later 0 (length outcomes)
  pub go : t.passed ≡ later 0 (length (filter (λ o. o.goes) outcomes))
  pub stay : t.denied ≡ later 0 (length (filter (λ o. if o.goes then false else true) outcomes))

-- ---- where a sink failed

-- What the next frame, of number n, adds in part: a proper prefix of itself, where it goes, or of its line, where it
-- stays.
abbrev pub InPart : Decision → ℕ → List ℕ → Added → Type 0
InPart d n next part =
    (FrameGoes d next × IsProperPrefix part.out next × (part.reports ≡ []))
    ⊎ ((line : List ℕ) × Adds d n (staying next) line × IsProperPrefix part.reports line × (part.out ≡ []))

-- The stream begins with the first frames, numbered on from n, and then the next one. The first ones are out and
-- reported, and the next one in part. `decisions` is as in `AllAdd`.
pub record BreaksOff (decisions : ℕ → Decision) (n : ℕ) (stream : List ℕ) (added : Added) : Type 0 where
  pub first : List Outcome
  pub next : List ℕ
  pub more : List ℕ
  pub begins : stream ≡ concat (frames_of first) ++ (next ++ more)
  pub each : All IsFrame (frames_of first)
  pub frame : IsFrame next
  pub lines : List ℕ
  pub all : AllAdd decisions n first lines
  pub part : Added
  pub last : InPart (decisions (length first)) (later n (length first)) next part
  pub out : added.out ≡ text_out first ++ part.out
  pub reports : added.reports ≡ lines ++ part.reports
