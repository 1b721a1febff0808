-- What is made of the octets of a link, piece by piece.
use Rattle.std.specs.Prelude.{◌≡◌, ◌<◌, ◌≤◌, ◌+◌, ℕ, List, [], ◌++◌, drop, length, take}
use Rattle.std.specs.List.{concat, All}
use Rattle.guard_frames.specs.Frames.{IsFrame, IsTooLong, IsUnfinished}
use Rattle.guard_frames.specs.declared.running.RunFault.TheVariants.{FrameTooLong, TornFrame}
use Rattle.guard_files.specs.declared.fault.Fault.TheVariants.{Run, NoMemory}
use Rattle.guard_files.specs.Devices.{Input}
use Rattle.guard_files.specs.Records.{LeavesOpen, Record, of_link}
use Rattle.guard_files.specs.Records.Record.{end}
use Rattle.guard_messages.specs.declared.unfound.Unfound.{Unfound}
use Rattle.guard_messages.specs.declared.unfound.Unfound.TheVariants.{Faulty, NoSuchFrame, BadRecord}
use Rattle.guard_messages.specs.declared.linked.Passed.{Passed}
use Rattle.guard_messages.specs.declared.linked.Passed.TheVariants.{Frame, Held, TooLong}
use Rattle.guard_messages.specs.Finding.{StopsLink}
use Rattle.guard_messages.specs.Linked.{EndsBefore, IsBadBefore}

-- The octets are as many frames, and then this rest.
pub record AreFrames (octets : List ℕ) (count : ℕ) (rest : List ℕ) : Type 0 where
  pub frames : List (List ℕ)
  pub each : All IsFrame frames
  pub many : length frames ≡ count
  pub joined : octets ≡ concat frames ++ rest

-- how many frames are passed over, of so many, and what follows them
abbrev pub IsPassed : List ℕ → ℕ → ℕ → Passed → Type 0
IsPassed octets old new (Frame at size) =
    AreFrames octets old (drop at octets) × IsFrame (take size (drop at octets)) × (at + size ≤ length octets)
IsPassed octets old new (Held at) =
    ((count : ℕ) × (new + count ≡ old) × AreFrames octets count (drop at octets)) × IsUnfinished (drop at octets)
    × (at ≤ length octets)
IsPassed octets old new TooLong =
    (rest : List ℕ) × (count : ℕ) × (count ≤ old) × AreFrames octets count rest × IsTooLong rest

-- ---- one record, with the octets that are held of the link before it and after it, and how many frames come before
-- the one that is looked for

abbrev pub joins : ℕ → List ℕ → Record → List ℕ
joins link held r = held ++ of_link link r

-- The frame is there.
pub record Completes (link : ℕ) (r : Record) (held : List ℕ) (before : ℕ) (frame : List ℕ) : Type 0 where
  pub going : LeavesOpen link r
  pub more : List ℕ
  pub passed : AreFrames (joins link held r) before (frame ++ more)
  pub is : IsFrame frame

-- The frame is yet to come.
pub record Holds (link : ℕ) (r : Record) (held later : List ℕ) (before left : ℕ) : Type 0 where
  pub going : LeavesOpen link r
  pub count : ℕ
  pub counted : left + count ≡ before
  pub passed : AreFrames (joins link held r) count later
  pub unfinished : IsUnfinished later

-- the frame can't come
abbrev pub Refuses : Unfound → ℕ → Record → List ℕ → ℕ → Type 0
Refuses NoSuchFrame link r held before = (r ≡ end link) × (held ≡ [])
Refuses (Faulty (Run TornFrame)) link r held before = (r ≡ end link) × (0 < length held)
Refuses (Faulty (Run FrameTooLong)) link r held before =
    LeavesOpen link r
    × ((rest : List ℕ) × (count : ℕ) × (count ≤ before) × AreFrames (joins link held r) count rest × IsTooLong rest)
Refuses (Faulty NoMemory) link r held before = Unit {0}
Refuses _ link r held before = ⊥

-- ---- all of them

abbrev pub IsUnlinked : ℕ → ℕ → Input → Unfound → Type 0
IsUnlinked link n input NoSuchFrame = EndsBefore link n input []
IsUnlinked link n input BadRecord = IsBadBefore link n input
IsUnlinked link n input (Faulty (Run f)) = StopsLink f link n input
IsUnlinked link n input (Faulty NoMemory) = Unit {0}
IsUnlinked link n input _ = ⊥
