-- Why frames stay, and what a watch is told: of each frame what becomes of it.
use Rattle.std.specs.List.{All, concat}
use Rattle.std.specs.Prelude.{◌≡◌, ◌<◌, ℕ, List, [], ◌∷◌, ◌++◌, drop, length, codes, decimal, Option, Some, None}
use Rattle.guard_policy.specs.Verdicts.{AbstractVerdict, pass, unknown_message, undecodable, outside_type, denied_by, not_allowed, no_rule}
use Rattle.guard_frames.specs.declared.totals.Totals.{Totals}
use Rattle.guard_frames.specs.declared.why.Reason.{Reason}
use Rattle.guard_frames.specs.declared.why.Reason.TheVariants.{UnknownMessage, Undecodable, OutsideType, DeniedBy, NotAllowed, NoRule}
use Rattle.guard_frames.specs.declared.why.Why.{Why}
use Rattle.guard_frames.specs.declared.why.Why.TheVariants.{BadHeader, NoMemory, Decided}
use Rattle.guard_frames.specs.Bodies.{AbstractBody}
use Rattle.guard_frames.specs.Frames.{IsFrame}
use Rattle.guard_frames.specs.Outcomes.{GoesBy}
use Rattle.guard_frames.specs.Added.{Added, nothing, sent_more, reported_more}

-- the reason of a verdict that isn't to pass
abbrev pub reason_of : AbstractVerdict → Option Reason
reason_of pass = None
reason_of unknown_message = Some UnknownMessage
reason_of (undecodable b) = Some Undecodable
reason_of (outside_type w) = Some OutsideType
reason_of (denied_by i) = Some (DeniedBy i)
reason_of (not_allowed rules) = Some NotAllowed
reason_of no_rule = Some NoRule

-- a line that says this of a frame; `Gives` says which lines give a reason
abbrev pub Says : (Reason → List ℕ → Type 0) → Why → List ℕ → Type 0
Says Gives BadHeader line = (n : ℕ) × (line ≡ decimal n ++ codes " bad-header\n")
Says Gives NoMemory line = (n : ℕ) × (line ≡ decimal n ++ codes " no-memory\n")
Says Gives (Decided reason) line = Gives reason line

pub data Told : Type 0 where
  -- what comes next may have to be waited for, and these are the totals so far
  pauses : Totals → Told
  -- so many octets came
  reads : ℕ → Told
  -- the next so many frames go, with so many octets in all, each by the rule of this number
  goes : ℕ → ℕ → ℕ → Told
  -- the next frame stays, for this reason
  stays : Why → Told

-- what was told last is a pause
abbrev pub IsPaused : List Told → Type 0
IsPaused [] = ⊥
IsPaused (pauses t ∷ before) = Unit {0}
IsPaused (reads n ∷ before) = ⊥
IsPaused (goes count n rule ∷ before) = ⊥
IsPaused (stays why ∷ before) = ⊥

-- The octets are so many frames, each of which goes by this rule; `Lets` says by which rule a body goes.
pub record AreLetBy (Lets : AbstractBody → ℕ → Type 0) (count rule : ℕ) (octets : List ℕ) : Type 0 where
  pub frames : List (List ℕ)
  pub joined : octets ≡ concat frames
  pub counted : count ≡ length frames
  pub each : All (λ frame. IsFrame frame × GoesBy Lets (drop 4 frame) rule) frames

-- All this, the last first, was told of what was read and added: of each piece, which came after a pause, how many octets
-- it has, of frames that go out side by side, at least one, how many they are, how many octets they have and by which rule
-- they go, as `Lets` says, and of each line that is reported what it says. At each pause this holds of what was read and
-- added before it, and of its totals.
abbrev pub Tells : (List ℕ → Added → Totals → Type 0) → (Reason → List ℕ → Type 0) → (AbstractBody → ℕ → Type 0) →
    List Told → List ℕ → Added → Type 0
Tells At Gives Lets [] read added = (read ≡ []) × (added ≡ nothing)
Tells At Gives Lets (pauses t ∷ before) read added = At read added t × Tells At Gives Lets before read added
Tells At Gives Lets (reads n ∷ before) read added =
    (first : List ℕ) × (piece : List ℕ) × (read ≡ first ++ piece) × (n ≡ length piece) × IsPaused before
    × Tells At Gives Lets before first added
Tells At Gives Lets (goes count n rule ∷ before) read added =
    (first : Added) × (octets : List ℕ) × (added ≡ sent_more first octets) × AreLetBy Lets count rule octets
    × (0 < count) × (n ≡ length octets) × Tells At Gives Lets before read first
Tells At Gives Lets (stays why ∷ before) read added =
    (first : Added) × (line : List ℕ) × (added ≡ reported_more first line) × Says Gives why line
    × Tells At Gives Lets before read first

-- A watch was told all this, the last first; `notes` says what each changes.
abbrev pub IsTold : {W : Type 0} → (W → Told → W → Type 0) → W → List Told → W → Type 0
IsTold {W} notes old [] new = new ≡ old
IsTold {W} notes old (told ∷ before) new = (last : W) × IsTold notes old before last × notes last told new

-- A watch was told of all frames of which this was added. There was no pause.
abbrev pub Noted : {W : Type 0} → (Reason → List ℕ → Type 0) → (AbstractBody → ℕ → Type 0) → (W → Told → W → Type 0) →
    W → Added → W → Type 0
Noted Gives Lets notes old added new =
    (told : List Told) × Tells (λ read front t. ⊥) Gives Lets told [] added × IsTold notes old told new
