-- The frame of a number, from 1, of one link in a stream of records.
use Rattle.std.specs.Prelude.{◌≡◌, ◌<◌, ◌+◌, ◌⊎◌, ℕ, List, [], ◌++◌, length, map}
use Rattle.std.specs.List.{concat, All}
use Rattle.std.specs.Io.KnownBytes.{Consumes, IsAtEnd}
use Rattle.guard_frames.specs.Frames.{IsFrame, IsTooLong, IsUnfinished}
use Rattle.guard_files.specs.Devices.{Input}
use Rattle.guard_files.specs.Records.{IsBadRecord, IsLost, LeavesOpen, Record, link_octets, record_octets, IsAllowed}
use Rattle.guard_files.specs.Records.Record.{end}

-- Records and a rest were read. The link's octets in the records are these frames, fewer than the number, and what is
-- held of the next ones.
pub record ReadsLink (link n : ℕ) (input : Input) (held rest : List ℕ) : Type 0 where
  pub records : List Record
  pub allowed : All IsAllowed records
  pub going : All (LeavesOpen link) records
  pub given : Consumes input.before input.after (concat (map record_octets records) ++ rest)
  pub frames : List (List ℕ)
  pub each : All IsFrame frames
  pub fewer : length frames < n
  pub octets : link_octets link records ≡ concat frames ++ held

-- Of what the records that were read carry for the link, this frame has the number.
pub record IsNthOfLink (link n : ℕ) (input : Input) (frame : List ℕ) : Type 0 where
  pub more : List ℕ
  pub all : ReadsLink link n input (frame ++ more) []
  pub number : length all.frames + 1 ≡ n
  pub is : IsFrame frame

-- Before the frame of the number the link has its end, or the records end.
abbrev pub EndsBefore : ℕ → ℕ → Input → List ℕ → Type 0
EndsBefore link n input held =
    ReadsLink link n input held (record_octets (end link)) ⊎ (ReadsLink link n input held [] × IsAtEnd input.after)

-- The link or the records end inside a frame.
abbrev pub IsTornBefore : ℕ → ℕ → Input → Type 0
IsTornBefore link n input = (held : List ℕ) × EndsBefore link n input held × (0 < length held) × IsUnfinished held

-- What is held begins with a length that no frame may have.
abbrev pub IsTooLongBefore : ℕ → ℕ → Input → Type 0
IsTooLongBefore link n input = (held : List ℕ) × ReadsLink link n input held [] × IsTooLong held

-- Before the frame of the number what comes in is no record, or is cut short.
abbrev pub IsBadBefore : ℕ → ℕ → Input → Type 0
IsBadBefore link n input = (held : List ℕ) × (rest : List ℕ) × ReadsLink link n input held rest × IsBadRecord input rest

-- Before the frame of the number the source failed, or was asked too often.
abbrev pub IsLostBefore : ℕ → ℕ → Input → Type 0
IsLostBefore link n input = (held : List ℕ) × (rest : List ℕ) × ReadsLink link n input held rest × IsLost input rest
