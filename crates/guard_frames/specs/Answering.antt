-- What is answered of frames that ask what becomes of them: a line for each, whether it goes or stays.
use Rattle.std.specs.Prelude.{◌≡◌, ℕ, true, ◌⊎◌, List, [], ◌∷◌, ◌++◌, codes, decimal}
use Rattle.guard_frames.specs.Bodies.{AbstractBody}
use Rattle.guard_frames.specs.Totals.{later}
use Rattle.guard_frames.specs.Outcomes.{Decision, FrameGoes, Outcome}
use Rattle.guard_frames.specs.Guarding.{StaysDecided, StaysBadHeader}

-- a line as a report has it, with `pass`
abbrev pub pass_line : ℕ → AbstractBody → List ℕ
pass_line n b =
    decimal n ++ codes " " ++ b.sender ++ codes ">" ++ b.receiver ++ codes " " ++ b.name ++ codes " pass\n"

-- The frame goes, and its line says so.
pub record Passes (d : Decision) (n : ℕ) (o : Outcome) (line : List ℕ) : Type 0 where
  pub out : o.goes ≡ true
  pub goes : FrameGoes d o.frame
  pub text : line ≡ pass_line n goes.body

-- the line of the frame of number n; one that stays has the line that is reported of it
abbrev pub Answers : Decision → ℕ → Outcome → List ℕ → Type 0
Answers d n o line = Passes d n o line ⊎ StaysDecided d n o line ⊎ StaysBadHeader n o line

-- the lines of frames that are numbered on from n, in order
abbrev pub AllAnswer : Decision → ℕ → List Outcome → List ℕ → Type 0
AllAnswer d n [] text = text ≡ []
AllAnswer d n (o ∷ outcomes) text = (line : List ℕ) × (lines : List ℕ) × (text ≡ line ++ lines)
    × Answers d n o line × AllAnswer d (later n 1) outcomes lines
