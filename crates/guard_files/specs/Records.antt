-- The records of a stream of many links: one octet of kind, two of link, four of length, high octets first, and as many
-- octets.
use Rattle.std.specs.Prelude.{◌≡◌, ◌≤◌, ℕ, nat_eq, List, [], ◌∷◌, ◌++◌, length, map, ◌<◌, ◌^◌, ◌⊎◌, true, if◌then◌else◌}
use Rattle.std.specs.Int.{w16, w32, to_be_bytes}
use Rattle.std.specs.List.{concat, All}
use Rattle.std.specs.Io.KnownBytes.{IsAtEnd}
use Rattle.std.specs.Str.Parse.{IsNumeral, digits_value, without_leading_plus}
use Rattle.guard_frames.specs.Totals.{WentUpBy}
use Rattle.guard_files.specs.Devices.{Input}

pub data Record : Type 0 where
  -- octets of this link's stream
  piece : ℕ → List ℕ → Record
  -- the end of this link's stream
  end : ℕ → Record
  -- the policy is to be read again
  reload : Record

abbrev pub header : ℕ → ℕ → ℕ → List ℕ
header kind link size = kind ∷ (to_be_bytes w16 link ++ to_be_bytes w32 size)

-- a record, written
abbrev pub record_octets : Record → List ℕ
record_octets (piece link octets) = header 0 link (length octets) ++ octets
record_octets (end link) = header 1 link 0
record_octets reload = header 2 0 0

-- There are links 0 to 15, and a record has 1,048,576 octets at most after its header.
abbrev pub IsAllowed : Record → Type 0
IsAllowed (piece link octets) = (link ≤ 15) × (length octets ≤ 1048576)
IsAllowed (end link) = link ≤ 15
IsAllowed reload = Unit {0}

-- the octets begin with no record, since they are cut short or aren't written so
abbrev pub HasNoRecord : List ℕ → Type 0
HasNoRecord s = (r : Record) (more : List ℕ) → IsAllowed r → s ≡ record_octets r ++ more → ⊥

-- whatever comes after these octets, no record begins with them
abbrev pub IsBadHeader : List ℕ → Type 0
IsBadHeader s = (more : List ℕ) → HasNoRecord (s ++ more)

-- the stream is these records and then this rest
pub record AreRecords (stream : List ℕ) (records : List Record) (rest : List ℕ) : Type 0 where
  pub whole : stream ≡ concat (map record_octets records) ++ rest
  pub allowed : All IsAllowed records

-- Seven octets with which no record begins; or octets that the end of the source cuts short.
abbrev pub IsBadRecord : Input → List ℕ → Type 0
IsBadRecord input rest =
    ((length rest ≡ 7) × IsBadHeader rest) ⊎ ((0 < length rest) × HasNoRecord rest × IsAtEnd input.after)

-- Less than a record was read of the next one, and the source failed or was asked 2^40 times.
abbrev pub IsLost : Input → List ℕ → Type 0
IsLost input rest =
    HasNoRecord rest × ((input.failed ≡ true) ⊎ WentUpBy input.asked_before (2 ^ 40) input.asked_after)

-- ---- what records say of one link

-- the word is this number in decimal digits, maybe behind a plus sign
abbrev pub IsNatural : List ℕ → ℕ → Type 0
IsNatural word n = IsNumeral 10 (without_leading_plus word) × (digits_value 10 (without_leading_plus word) ≡ n)

-- the word is a number that a link may have
abbrev pub IsLink : List ℕ → ℕ → Type 0
IsLink word link = IsNatural word link × (link ≤ 15)

-- the octets of the link in a record
abbrev pub of_link : ℕ → Record → List ℕ
of_link link (piece other octets) = if nat_eq other link then octets else []
of_link link (end other) = []
of_link link reload = []

-- those in records, in order
abbrev pub link_octets : ℕ → List Record → List ℕ
link_octets link records = concat (map (of_link link) records)

-- the record isn't the end of the link
abbrev pub LeavesOpen : ℕ → Record → Type 0
LeavesOpen link (piece other octets) = Unit {0}
LeavesOpen link (end other) = other ≡ link → ⊥
LeavesOpen link reload = Unit {0}
