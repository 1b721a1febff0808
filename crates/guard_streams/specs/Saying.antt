-- The line with what the system says of a device or a file that failed, where notes are asked for. The text is the
-- system's.
use Rattle.std.specs.Prelude.{◌≡◌, ◌<◌, ◌⊎◌, ℕ, List, [], ◌++◌, length, slice_index, codes, string_bytes, Option, Some, None}
use Rattle.guard_frames.specs.declared.running.RunFault.{RunFault}
use Rattle.guard_frames.specs.declared.running.RunFault.TheVariants.{FrameTooLong, WriteFailed, TornFrame, ReadFailed, OutOfMemory}
use Rattle.guard_files.specs.declared.fault.Fault.{Fault}
use Rattle.guard_files.specs.declared.fault.Fault.TheVariants.{CannotRead, TooLarge, Schema, Policy, Run, NoMemory}
use Rattle.guard_files.specs.Devices.{Device}
use Rattle.guard_files.specs.Explaining.{TellsWith}
use Rattle.guard_streams.specs.declared.seen.Seen.{Seen}
use Rattle.guard_streams.specs.InForce.{kept_note}

abbrev pub HasNoLineFeed : List ℕ → Type 0
HasNoLineFeed text = (k : ℕ) → k < length text → slice_index text k ≡ 10 → ⊥

-- `derguard: NAME: TEXT`
abbrev pub said_line : List ℕ → List ℕ → List ℕ
said_line name text = codes "derguard: " ++ name ++ codes ": " ++ text ++ codes "\n"

-- such a line, with some text; or none, where the system didn't say why
abbrev pub IsSaid : List ℕ → List ℕ → Type 0
IsSaid name line = (line ≡ []) ⊎ ((text : List ℕ) × HasNoLineFeed text × (line ≡ said_line name text))

-- of a stream that wasn't guarded to its end
abbrev pub IsSaidOfRun : RunFault → List ℕ → Type 0
IsSaidOfRun ReadFailed line = IsSaid (codes "standard input") line
IsSaidOfRun WriteFailed line = IsSaid (codes "standard output") line
IsSaidOfRun FrameTooLong line = line ≡ []
IsSaidOfRun TornFrame line = line ≡ []
IsSaidOfRun OutOfMemory line = line ≡ []

-- of a file that can't be read
abbrev pub IsSaidOfFault : Fault → List ℕ → Type 0
IsSaidOfFault (CannotRead file obstacle) line = IsSaid (string_bytes file) line
IsSaidOfFault (TooLarge file) line = line ≡ []
IsSaidOfFault (Schema f) line = line ≡ []
IsSaidOfFault (Policy f) line = line ≡ []
IsSaidOfFault (Run f) line = line ≡ []
IsSaidOfFault NoMemory line = line ≡ []

-- Of a policy that can't be had anew while a stream runs, where notes are asked for: what the system says, and which one
-- stays; or nothing, where there is no memory for that.
abbrev pub IsUnreadNote : Option Seen → Fault → List ℕ → Type 0
IsUnreadNote None f note = note ≡ []
IsUnreadNote (Some s) f note =
    (note ≡ []) ⊎ ((said : List ℕ) × IsSaidOfFault f said × (note ≡ said ++ kept_note s.digest))

-- why there is no policy, with what the system says
abbrev pub TellsUnread : Fault → Device → ℕ → Type 0
TellsUnread f err status = (line : List ℕ) × IsSaidOfFault f line × TellsWith f line err status
