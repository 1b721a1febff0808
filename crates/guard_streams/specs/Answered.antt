-- What comes of frames that ask what becomes of them.
use Rattle.std.specs.Prelude.{◌≡◌, ℕ, true, List, [], ◌++◌, length}
use Rattle.std.specs.List.{concat, All}
use Rattle.std.specs.Io.KnownBytes.{Appends, Consumes, IsAtEnd}
use Rattle.guard_frames.specs.declared.running.RunFault.{RunFault}
use Rattle.guard_frames.specs.declared.running.RunFault.TheVariants.{FrameTooLong, WriteFailed, TornFrame, ReadFailed, OutOfMemory}
use Rattle.guard_frames.specs.declared.totals.Totals.{Totals}
use Rattle.guard_frames.specs.Answering.{Answers, AllAnswer}
use Rattle.guard_frames.specs.Frames.{IsFrame, ConsistsOf}
use Rattle.guard_frames.specs.Guarding.{Counts}
use Rattle.guard_frames.specs.Outcomes.{Decision, Outcome, frames_of}
use Rattle.guard_frames.specs.Prefix.{IsProperPrefix}
use Rattle.guard_frames.specs.Totals.{later}
use Rattle.guard_files.specs.Devices.{Input, Device}
use Rattle.guard_files.specs.NextFrame.{IsTooLongAlone, IsTornAtEnd, IsLostInFrame}

-- What was read is frames and a rest, and each frame, numbered from 1, is answered by its line.
pub record AreAnswered (d : Decision) (input : Input) (out : Device) (IsRest : List ℕ → Type 0) : Type 0 where
  pub read : List ℕ
  pub given : Consumes input.before input.after read
  pub outcomes : List Outcome
  pub rest : List ℕ
  pub split : ConsistsOf read (frames_of outcomes) rest
  pub text : List ℕ
  pub answers : AllAnswer d 1 outcomes text
  pub sent : Appends out.before out.after text
  pub last : IsRest rest

-- No rest is left, and the source has no more to give.
pub record AnswersAll (d : Decision) (totals : Totals) (input : Input) (out : Device) : Type 0 where
  pub all : AreAnswered d input out (λ rest. rest ≡ [])
  pub counts : Counts all.outcomes totals
  pub at_end : IsAtEnd input.after

-- ---- where frames aren't answered to the end

-- The first frames are answered, and of the line of the next one, which is the last that was read, standard output took
-- a part and failed.
pub record AnswersInPart (d : Decision) (input : Input) (out : Device) : Type 0 where
  pub first : List Outcome
  pub next : Outcome
  pub given : Consumes input.before input.after (concat (frames_of first) ++ next.frame)
  pub each : All IsFrame (frames_of first)
  pub frame : IsFrame next.frame
  pub lines : List ℕ
  pub answers : AllAnswer d 1 first lines
  pub line : List ℕ
  pub answer : Answers d (later 1 (length first)) next line
  pub part : List ℕ
  pub inside : IsProperPrefix part line
  pub sent : Appends out.before out.after (lines ++ part)
  pub failed : out.failed ≡ true

-- why not, and what standard output took
abbrev pub StopsAnswering : RunFault → Decision → Input → Device → Type 0
StopsAnswering FrameTooLong d input out = AreAnswered d input out IsTooLongAlone
StopsAnswering TornFrame d input out = AreAnswered d input out (IsTornAtEnd input)
StopsAnswering ReadFailed d input out = AreAnswered d input out (IsLostInFrame input)
StopsAnswering WriteFailed d input out = AnswersInPart d input out
StopsAnswering OutOfMemory d input out = ⊥
