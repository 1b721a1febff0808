-- What goes out of a link in records, and how its lines are marked.
use Rattle.std.specs.Prelude.{◌≡◌, ◌<◌, ◌≤◌, ℕ, List, [], ◌∷◌, ◌++◌, length, map, codes, decimal, Result, Ok, Err}
use Rattle.std.specs.List.{concat}
pub use Rattle.guard_notes.specs.Lines.{lines_of, with_first}
use Rattle.guard_frames.specs.declared.link.LinkFault.{LinkFault}
use Rattle.guard_frames.specs.FaultTexts.{fault_text}
use Rattle.guard_files.specs.Records.{record_octets}
use Rattle.guard_files.specs.Records.Record.{piece}

-- ---- standard output

-- Each part but the last has 1,048,576 octets, and the last at most as many, and some.
abbrev pub AreFull : List (List ℕ) → Type 0
AreFull [] = Unit {0}
AreFull (last ∷ []) = (0 < length last) × (length last ≤ 1048576)
AreFull (part ∷ next ∷ parts) = (length part ≡ 1048576) × AreFull (next ∷ parts)

-- the octets, written in records of this link
pub record InRecords (link : ℕ) (octets written : List ℕ) : Type 0 where
  pub parts : List (List ℕ)
  pub joined : concat parts ≡ octets
  pub full : AreFull parts
  pub records : written ≡ concat (map (λ part. record_octets (piece link part)) parts)

-- ---- standard error

-- of so many octets that it goes in one call
abbrev pub IsShort : List ℕ → Type 0
IsShort line = length line ≤ 4096

abbrev pub link_mark : ℕ → List ℕ
link_mark link = codes "link " ++ (decimal link ++ codes " ")

abbrev pub marked_line : ℕ → List ℕ → List ℕ
marked_line link line = link_mark link ++ (line ++ codes "\n")

-- the lines of a text, each after the number of its link
abbrev pub marked : ℕ → List ℕ → List ℕ
marked link text = concat (map (marked_line link) (lines_of text))

-- the line of a link's fault, where it has one
abbrev pub fault_line : ℕ → Result (Unit {0}) LinkFault → List ℕ
fault_line link (Ok done) = []
fault_line link (Err f) = marked_line link (fault_text f)
