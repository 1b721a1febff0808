-- Which lines and which verdicts there are, by their first words.
use Rattle.std.specs.Prelude.{ℕ, Bool, ◌||◌, if◌then◌else◌, bytes_eq, codes, List}
use Rattle.guard_json.specs.declared.kinds.LineKind.{LineKind}
use Rattle.guard_json.specs.declared.kinds.LineKind.TheVariants.{Linked, Said, Numbered, Bare}
use Rattle.guard_json.specs.declared.kinds.VerdictKind.{VerdictKind}
use Rattle.guard_json.specs.declared.kinds.VerdictKind.TheVariants.{Alone, Undecodable, OutsideType, DeniedBy, NotAllowed, Unknown}
use Rattle.guard_json.specs.Cutting.{up_to, blank, is_number}

-- `link K ..`, `derguard: ..`, the line of a frame, or another one
abbrev pub line_kind_by : List ℕ → LineKind
line_kind_by word =
    if bytes_eq word (codes "link") then Linked
    else if bytes_eq word (codes "derguard:") then Said
    else if is_number word then Numbered
    else Bare

abbrev pub line_kind : List ℕ → LineKind
line_kind line = line_kind_by (up_to blank line)

-- the verdicts that are one word
abbrev pub is_alone : List ℕ → Bool
is_alone text = bytes_eq text (codes "pass") || bytes_eq text (codes "no-rule") || bytes_eq text (codes "unknown-message")

-- what is said of a frame that no policy decides, or whose line had no memory
abbrev pub is_undecided : List ℕ → Bool
is_undecided text = bytes_eq text (codes "bad-header") || bytes_eq text (codes "no-memory")

abbrev pub verdict_kind_by : List ℕ → VerdictKind
verdict_kind_by word =
    if bytes_eq word (codes "undecodable") then Undecodable
    else if bytes_eq word (codes "outside-type") then OutsideType
    else if bytes_eq word (codes "denied-by") then DeniedBy
    else if bytes_eq word (codes "not-allowed") then NotAllowed
    else Unknown

abbrev pub verdict_kind : List ℕ → VerdictKind
verdict_kind text = if is_alone text then Alone else verdict_kind_by (up_to blank text)
