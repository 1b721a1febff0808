-- What goes to standard output and standard error, and with which status the program ends.
use Rattle.std.specs.Prelude.{◌≡◌, ◌⊎◌, ℕ, true, List, [], ◌++◌, codes}
use Rattle.std.specs.Io.KnownBytes.{Appends}
use Rattle.guard_frames.specs.declared.link.LinkFault.TheVariants.{WriteFailed}
use Rattle.guard_frames.specs.FaultTexts.{fault_text}
use Rattle.guard_frames.specs.Prefix.{IsProperPrefix}
use Rattle.guard_files.specs.declared.fault.Fault.{Fault}
use Rattle.guard_files.specs.Devices.{Device, IsUntouched}
use Rattle.guard_files.specs.Faults.{IsText, fault_status}

-- the sink took all of the octets
abbrev pub TookAll : List ℕ → Device → Type 0
TookAll octets sink = Appends sink.before sink.after octets

-- it took a part of them, and failed
abbrev pub TookPart : List ℕ → Device → Type 0
TookPart octets sink =
    (part : List ℕ) × IsProperPrefix part octets × Appends sink.before sink.after part × (sink.failed ≡ true)

-- a text after `derguard: `, and a line feed
abbrev pub line_of : List ℕ → List ℕ
line_of text = codes "derguard: " ++ text ++ codes "\n"

-- Standard error took the octets, and the status is this one; or it failed, and the status is 3.
abbrev pub TellsOctets : List ℕ → ℕ → Device → ℕ → Type 0
TellsOctets octets status err result = (TookAll octets err × (result ≡ status)) ⊎ (TookPart octets err × (result ≡ 3))

abbrev pub TellsLine : List ℕ → ℕ → Device → ℕ → Type 0
TellsLine text = TellsOctets (line_of text)

-- there was no memory to say anything else
abbrev pub TellsNoMemory : Device → ℕ → Type 0
TellsNoMemory err result = TellsLine (codes "no-memory") 3 err result

-- what is reported of a fault, and the status; or that there was no memory to say it
abbrev pub IsFaultLine : Fault → List ℕ → ℕ → Type 0
IsFaultLine f line status =
    ((text : List ℕ) × IsText f text × (line ≡ line_of text) × (status ≡ fault_status f))
    ⊎ ((line ≡ line_of (codes "no-memory")) × (status ≡ 3))

-- a text is reported, with this status
abbrev pub TellsText : List ℕ → ℕ → Device → ℕ → Type 0
TellsText text status err result = TellsLine text status err result ⊎ TellsNoMemory err result

-- a fault is reported with what comes after its line, with its status
abbrev pub TellsWith : Fault → List ℕ → Device → ℕ → Type 0
TellsWith f note err result =
    ((text : List ℕ) × IsText f text × TellsOctets (line_of text ++ note) (fault_status f) err result)
    ⊎ TellsNoMemory err result

-- a fault is reported, and nothing after its line
abbrev pub Tells : Fault → Device → ℕ → Type 0
Tells f err result = TellsWith f [] err result

-- The octets go to standard output, and the status is this one; or it failed, which is reported, and the status is 3.
abbrev pub Writes : List ℕ → ℕ → Device → Device → ℕ → Type 0
Writes octets status out err result =
    (TookAll octets out × IsUntouched err × (result ≡ status))
    ⊎ (TookPart octets out × TellsLine (fault_text WriteFailed) 3 err result)
