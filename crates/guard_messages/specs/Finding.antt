-- The octets of a message that is written, is in a file or comes in, and why they can't be had.
use Rattle.std.specs.Prelude.{◌≡◌, ◌<◌, ◌≤◌, ◌⊎◌, ℕ, Bool, true, false, List, [], codes, bytes_eq, drop, length, string_bytes, Some, None, Ok, Err}
use Rattle.hex.specs.Hex.{decode_of}
use Rattle.hex.specs.declared.error.FromHexError.{FromHexError}
use Rattle.guard_frames.specs.declared.running.RunFault.{RunFault}
use Rattle.guard_frames.specs.declared.running.RunFault.TheVariants.{FrameTooLong, TornFrame, ReadFailed}
use Rattle.guard_files.specs.declared.fault.Fault.{Fault}
use Rattle.guard_files.specs.declared.fault.Fault.TheVariants.{CannotRead, Run, NoMemory}
use Rattle.guard_files.specs.declared.stop.Stop.{Stop}
use Rattle.guard_files.specs.declared.stop.Stop.TheVariants as stop
use Rattle.guard_files.specs.Devices.{Input, Device, IsUnread, IsUntouched}
use Rattle.guard_files.specs.Files.{Told, HasFront, HasNone, after_read}
use Rattle.guard_files.specs.Intake.{IsRead, IsLost}
use Rattle.guard_files.specs.Records.{IsLink}
use Rattle.guard_files.specs.Writing.{TellsLine, TellsText, Tells, Writes}
use Rattle.guard_messages.specs.declared.unfound.Unfound.{Unfound}
use Rattle.guard_messages.specs.declared.unfound.Unfound.TheVariants.{BadHex, Faulty, TooLong, NoSuchLink, NoSuchFrame, BadRecord}
use Rattle.guard_messages.specs.Linked.{IsNthOfLink, EndsBefore, IsTornBefore, IsTooLongBefore, IsBadBefore, IsLostBefore}
use Rattle.guard_messages.specs.Numbered.{IsNumber, IsNth, HasFewer, StopsBefore}
use Rattle.guard_messages.specs.Questions.{AbstractSpot, written, kept, framed}

-- ---- all that is at a path

-- `-` is standard input
abbrev pub is_input : List ℕ → Bool
is_input path = bytes_eq path (codes "-")

-- These octets, by whether the path is standard input; and what reads of files to come find. One octet more is read
-- than a message may have.
abbrev pub IsKeptBy : Bool → Told → List ℕ → Input → List ℕ → Told → Type 0
IsKeptBy true told path input octets later = IsRead input octets × (later ≡ told)
IsKeptBy false told path input octets later = IsUnread input × HasFront told path octets × (later ≡ after_read told)

-- why there are none
abbrev pub IsNotKeptBy : Bool → Told → List ℕ → Input → Fault → Type 0
IsNotKeptBy true told path input f = (f ≡ Run ReadFailed) × IsLost input
IsNotKeptBy false told path input (CannotRead file obstacle) = IsUnread input × HasNone told path × (string_bytes file ≡ path)
IsNotKeptBy false told path input _ = ⊥

-- ---- at a spot

-- the frame of what comes in, its length octets included
abbrev pub IsFrameAt : AbstractSpot → Input → List ℕ → Type 0
IsFrameAt (framed word None) input frame = (n : ℕ) × IsNumber word n × IsNth n input frame
IsFrameAt (framed word (Some number)) input frame =
    (link : ℕ) × (n : ℕ) × IsLink number link × IsNumber word n × IsNthOfLink link n input frame
IsFrameAt _ input frame = ⊥

-- A message has 1,048,576 octets at most. Of a frame they are those behind its length.
abbrev pub IsFound : Told → AbstractSpot → Input → List ℕ → Told → Type 0
IsFound told (written digits) input octets later = (decode_of digits ≡ Ok octets) × (later ≡ told)
IsFound told (kept path) input octets later =
    IsKeptBy (is_input path) told path input octets later × (length octets ≤ 1048576)
IsFound told (framed word link) input octets later =
    (frame : List ℕ) × IsFrameAt (framed word link) input frame × (octets ≡ drop 4 frame) × (later ≡ told)

-- nothing is read for digits
abbrev pub LeavesInput : AbstractSpot → Input → Type 0
LeavesInput (written digits) input = IsUnread input
LeavesInput (kept path) input = Unit {0}
LeavesInput (framed word link) input = Unit {0}

-- the digits write none
abbrev pub IsBadHexAt : AbstractSpot → Type 0
IsBadHexAt (written digits) = (e : FromHexError) × (decode_of digits ≡ Err e)
IsBadHexAt _ = ⊥

abbrev pub IsTooLongAt : Told → AbstractSpot → Input → Type 0
IsTooLongAt told (kept path) input =
    (octets : List ℕ) × (later : Told) × IsKeptBy (is_input path) told path input octets later × (1048576 < length octets)
IsTooLongAt told _ input = ⊥

-- the word is no number of a link
abbrev pub HasNoSuchLink : AbstractSpot → Input → Type 0
HasNoSuchLink (framed word (Some number)) input = ((link : ℕ) → IsLink number link → ⊥) × IsUnread input
HasNoSuchLink _ input = ⊥

-- the word is no number of a frame, or there are fewer frames
abbrev pub HasNoSuchFrame : AbstractSpot → Input → Type 0
HasNoSuchFrame (framed word None) input =
    (((n : ℕ) → IsNumber word n → ⊥) × IsUnread input) ⊎ ((n : ℕ) × IsNumber word n × HasFewer n input)
HasNoSuchFrame (framed word (Some number)) input =
    (link : ℕ) × IsLink number link
    × ((((n : ℕ) → IsNumber word n → ⊥) × IsUnread input) ⊎ ((n : ℕ) × IsNumber word n × EndsBefore link n input []))
HasNoSuchFrame _ input = ⊥

-- why that of a link can't be reached
abbrev pub StopsLink : RunFault → ℕ → ℕ → Input → Type 0
StopsLink FrameTooLong link n input = IsTooLongBefore link n input
StopsLink TornFrame link n input = IsTornBefore link n input
StopsLink ReadFailed link n input = IsLostBefore link n input
StopsLink _ link n input = ⊥

abbrev pub IsFaultyAt : Told → AbstractSpot → Input → Fault → Type 0
IsFaultyAt told (kept path) input f = IsNotKeptBy (is_input path) told path input f
IsFaultyAt told (framed word None) input (Run f) = (n : ℕ) × IsNumber word n × StopsBefore f n input
IsFaultyAt told (framed word (Some number)) input (Run f) =
    (link : ℕ) × (n : ℕ) × IsLink number link × IsNumber word n × StopsLink f link n input
IsFaultyAt told _ input _ = ⊥

-- what comes in is no record, or is cut short
abbrev pub IsBadAt : AbstractSpot → Input → Type 0
IsBadAt (framed word (Some number)) input =
    (link : ℕ) × (n : ℕ) × IsLink number link × IsNumber word n × IsBadBefore link n input
IsBadAt _ input = ⊥

-- why they can't be had; that memory ran out may come in place of any answer
abbrev pub IsUnfound : Told → AbstractSpot → Input → Unfound → Type 0
IsUnfound told spot input BadHex = IsBadHexAt spot
IsUnfound told spot input (Faulty f) = IsFaultyAt told spot input f ⊎ (f ≡ NoMemory)
IsUnfound told spot input TooLong = IsTooLongAt told spot input
IsUnfound told spot input NoSuchLink = HasNoSuchLink spot input
IsUnfound told spot input NoSuchFrame = HasNoSuchFrame spot input
IsUnfound told spot input BadRecord = IsBadAt spot input

-- why no record could be read
abbrev pub of_stop : Stop → Unfound
of_stop stop.BadRecord = BadRecord
of_stop stop.ReadFailed = Faulty (Run ReadFailed)
of_stop stop.WriteFailed = Faulty (Run ReadFailed)
of_stop stop.ErrorFailed = Faulty (Run ReadFailed)

-- ---- what comes of it

-- of digits that write none, with what is to be done where that is to be explained
abbrev pub bad_hex : Bool → List ℕ
bad_hex false = codes "bad hex"
bad_hex true =
    codes "bad hex\n  A message is written by pairs of hexadecimal digits, 0 to 9 and a to f. Mend the digits."

-- what is reported, and the status
abbrev pub TellsUnfound : Bool → Unfound → Device → ℕ → Type 0
TellsUnfound explain BadHex err status = TellsText (bad_hex explain) 2 err status
TellsUnfound explain (Faulty f) err status = Tells f err status
TellsUnfound explain TooLong err status = TellsText (codes "message too long") 2 err status
TellsUnfound explain NoSuchLink err status = TellsText (codes "no such link") 2 err status
TellsUnfound explain NoSuchFrame err status = TellsText (codes "no such frame") 2 err status
TellsUnfound explain BadRecord err status = TellsLine (codes "bad record") 3 err status

-- The frame goes out as it came; or why not is reported.
abbrev pub CapturesFrame : Told → AbstractSpot → Input → Device → Device → ℕ → Type 0
CapturesFrame told spot input out err status =
    ((frame : List ℕ) × IsFrameAt spot input frame × Writes frame 0 out err status)
    ⊎ ((u : Unfound) × IsUnfound told spot input u × IsUntouched out × TellsUnfound false u err status)

-- The octets are had, and answered by what reads of files to come find; or why not is reported.
abbrev pub AnswersFound : Bool → (Told → List ℕ → Device → Device → ℕ → Type 0) → Told → AbstractSpot → Input → Device
    → Device → ℕ → Type 0
AnswersFound explain IsAnswered told spot input out err status =
    LeavesInput spot input
    × (((octets : List ℕ) × (later : Told) × IsFound told spot input octets later × IsAnswered later octets out err status)
    ⊎ ((u : Unfound) × IsUnfound told spot input u × IsUntouched out × TellsUnfound explain u err status))
