-- The notes that end a run where it is asked to be verbose, each a line after `derguard: `.
use Rattle.std.specs.Prelude.{ℕ, nat_eq, ◌⊎◌, List, [], ◌++◌, codes, decimal, if◌then◌else◌}
use Rattle.guard_frames.specs.declared.running.RunFault.{RunFault}
use Rattle.guard_frames.specs.declared.running.RunFault.TheVariants.{FrameTooLong, WriteFailed, TornFrame, ReadFailed, OutOfMemory}
use Rattle.guard_frames.specs.declared.totals.Totals.{Totals}
use Rattle.guard_frames.specs.LinkView.{AbstractLink}
use Rattle.guard_frames.specs.Totals.{no_frames, next_number}
use Rattle.guard_files.specs.declared.fault.Fault.TheVariants.{Run}
use Rattle.guard_files.specs.Devices.{Device}
use Rattle.guard_files.specs.Explaining.{TellsWith}
use Rattle.guard_files.specs.Writing.{TellsOctets, TellsNoMemory}
use Rattle.guard_streams.specs.declared.counts.Counts.{Counts}
use Rattle.guard_streams.specs.declared.seen.Seen.{Seen}
use Rattle.guard_streams.specs.Counted.{by_reason, no_counts}
use Rattle.guard_streams.specs.Saying.{IsSaidOfRun}

-- `derguard: frames F, passed P, denied D`
abbrev pub totals_line : Totals → List ℕ
totals_line t =
    codes "derguard: frames " ++ decimal t.frames ++ codes ", passed " ++ decimal t.passed ++ codes ", denied "
    ++ decimal t.denied ++ codes "\n"

-- `derguard: REASON N`, where the reason was reported
abbrev pub count_line : List ℕ → ℕ → List ℕ
count_line reason n =
    if nat_eq n 0 then [] else codes "derguard: " ++ reason ++ codes " " ++ decimal n ++ codes "\n"

abbrev pub count_lines : Counts → List ℕ
count_lines = by_reason count_line

-- the last notes: the totals, and how often each reason was reported
abbrev pub last_lines : Seen → List ℕ
last_lines s = totals_line s.totals ++ count_lines s.counts

-- `derguard: frame N, length L` or `derguard: frame N, octets O`
abbrev pub frame_line : ℕ → List ℕ → ℕ → List ℕ
frame_line number word n =
    codes "derguard: frame " ++ decimal number ++ codes ", " ++ word ++ codes " " ++ decimal n ++ codes "\n"

-- What is said behind the line of a fault: of which frame its length is too long, or how many octets of it there are.
-- An output that fails and of which that can be said is standard output.
abbrev pub fault_line : RunFault → Seen → List ℕ
fault_line FrameTooLong s = frame_line (next_number s.totals) (codes "length") s.left
fault_line TornFrame s = frame_line (next_number s.totals) (codes "octets") s.left
fault_line WriteFailed s = codes "derguard: standard output failed\n"
fault_line ReadFailed s = []
fault_line OutOfMemory s = []

-- with what the system says in between
abbrev pub fault_lines : RunFault → List ℕ → Seen → List ℕ
fault_lines f said s = fault_line f s ++ said ++ last_lines s

-- what a link tells of its frames under the policy of this number, and how often each reason was reported
abbrev pub seen_of : List ℕ → AbstractLink → Counts → Seen
seen_of digest l counts = record { digest = digest; totals = l.totals; counts = counts; left = l.left }

-- before the first frame
abbrev pub nothing_seen : List ℕ → Seen
nothing_seen digest = record { digest = digest; totals = no_frames; counts = no_counts; left = 0 }

-- ---- what is said at the end

-- The octets are said, with this status; or that there was no memory for them.
abbrev pub TellsNotes : List ℕ → ℕ → Device → ℕ → Type 0
TellsNotes octets status err result = TellsOctets octets status err result ⊎ TellsNoMemory err result

-- a fault with the notes behind its line
abbrev pub TellsFault : RunFault → Seen → Device → ℕ → Type 0
TellsFault f s err status =
    (said : List ℕ) × IsSaidOfRun f said × TellsWith (Run f) (fault_lines f said s) err status
