-- The header of a record, as the code has it.
use Rattle.std.specs.Prelude.{◌≡◌, ◌<◌, ◌≤◌, ◌⊎◌, ℕ, Bool, true, List, length, take}
use Rattle.guard_files.specs.declared.records.Header.{Header}
use Rattle.guard_files.specs.declared.records.Header.TheVariants.{Piece, End, Reload}
use Rattle.guard_files.specs.declared.stop.Stop.{Stop}
use Rattle.guard_files.specs.declared.stop.Stop.TheVariants.{BadRecord, ReadFailed}
use Rattle.guard_files.specs.Records.{Record, header, HasNoRecord, IsBadHeader}
use Rattle.guard_files.specs.Records.Record.{piece, end, reload}

-- the record with this header, whose octets are the first ones in the room
abbrev pub record_of : Header → List ℕ → Record
record_of (Piece link size) room = piece link (take size room)
record_of (End link) room = end link
record_of Reload room = reload

abbrev pub header_octets : Header → List ℕ
header_octets (Piece link size) = header 0 link size
header_octets (End link) = header 1 link 0
header_octets Reload = header 2 0 0

abbrev pub IsGood : Header → Type 0
IsGood (Piece link size) = (link ≤ 15) × (size ≤ 1048576)
IsGood (End link) = link ≤ 15
IsGood Reload = Unit {0}

-- why no record could be read: these octets begin none, by how the source is after them
abbrev pub IsNone : Stop → List ℕ → Type 0 → Bool → ℕ → Type 0
IsNone BadRecord rest AtEnd failed reads =
    ((length rest ≡ 7) × IsBadHeader rest) ⊎ ((0 < length rest) × HasNoRecord rest × AtEnd)
IsNone ReadFailed rest AtEnd failed reads = HasNoRecord rest × ((failed ≡ true) ⊎ (reads ≡ 0))
IsNone _ rest AtEnd failed reads = ⊥
