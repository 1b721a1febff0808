-- The frame of a number, from 1, of those that come in.
use Rattle.std.specs.Prelude.{◌≡◌, ◌<◌, ◌+◌, ◌^◌, ℕ, List, ◌++◌, length}
use Rattle.std.specs.List.{concat, All}
use Rattle.std.specs.Io.KnownBytes.{Consumes, IsAtEnd}
use Rattle.guard_frames.specs.declared.running.RunFault.{RunFault}
use Rattle.guard_frames.specs.declared.running.RunFault.TheVariants.{FrameTooLong, TornFrame, ReadFailed}
use Rattle.guard_frames.specs.Frames.{IsFrame}
use Rattle.guard_files.specs.NextFrame.{IsTooLongAlone, IsTornAtEnd, IsLostInFrame}
use Rattle.guard_files.specs.Devices.{Input}
use Rattle.guard_files.specs.Records.{IsNatural}

-- the word is a number that a frame may have
abbrev pub IsNumber : List ℕ → ℕ → Type 0
IsNumber word n = IsNatural word n × (0 < n) × (n < 2 ^ 64)

-- This frame has the number, and nothing was read behind it.
pub record IsNth (n : ℕ) (input : Input) (frame : List ℕ) : Type 0 where
  pub others : List (List ℕ)
  pub each : All IsFrame others
  pub number : length others + 1 ≡ n
  pub is : IsFrame frame
  pub given : Consumes input.before input.after (concat others ++ frame)

-- There are fewer frames, and no more octets.
pub record HasFewer (n : ℕ) (input : Input) : Type 0 where
  pub frames : List (List ℕ)
  pub each : All IsFrame frames
  pub fewer : length frames < n
  pub given : Consumes input.before input.after (concat frames)
  pub at_end : IsAtEnd input.after

-- Fewer frames were read, and then this rest.
pub record BreaksBefore (n : ℕ) (input : Input) (IsRest : List ℕ → Type 0) : Type 0 where
  pub frames : List (List ℕ)
  pub each : All IsFrame frames
  pub fewer : length frames < n
  pub rest : List ℕ
  pub given : Consumes input.before input.after (concat frames ++ rest)
  pub is : IsRest rest

-- why the frame can't be reached
abbrev pub StopsBefore : RunFault → ℕ → Input → Type 0
StopsBefore FrameTooLong n input = BreaksBefore n input IsTooLongAlone
StopsBefore TornFrame n input = BreaksBefore n input (IsTornAtEnd input)
StopsBefore ReadFailed n input = BreaksBefore n input (IsLostInFrame input)
StopsBefore _ n input = ⊥
