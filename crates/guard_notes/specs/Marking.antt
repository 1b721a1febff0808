-- A line of a text with a mark under one of its columns.
use Rattle.std.specs.Prelude.{◌+◌, ◌-◌, ◌&&◌, ℕ, min, nat_eq, nat_le, nat_lt, Bool, List, [], ◌++◌, length, map, take, drop, replicate, codes, slice_get, unwrap_or, if◌then◌else◌}
use Rattle.guard_notes.specs.Lines.{lines_of}

-- the line of this number, from 1, without its line feed; none has no octets
abbrev pub line_at : ℕ → List ℕ → List ℕ
line_at number text = unwrap_or (slice_get (lines_of text) (number - 1)) []

-- What is shown of an octet: a printable character of ASCII, 32 to 126, itself; a tab, 9, and the end of a line, 13, as
-- a blank; any other one as `?`, 63. So each octet takes one column, and a text can't do anything with a terminal.
abbrev pub shown : ℕ → ℕ
shown o = if nat_le 32 o && nat_lt o 127 then o else (if nat_eq o 9 then 32 else (if nat_eq o 13 then 32 else 63))

-- what is shown for columns that are left out
abbrev pub dots : Bool → List ℕ
dots some = if some then codes "..." else []

-- How many columns are left out before those that are shown: none of a line of at most 120, and else so many that 60
-- are left before the mark.
abbrev pub left_out : ℕ → List ℕ → ℕ
left_out place line = if nat_le (length line) 120 then 0 else place - 60

-- at most 120 columns after those that are left out, and the mark below the octet at the place, from 0
abbrev pub marked_at : ℕ → ℕ → List ℕ → List ℕ
marked_at place out line =
    codes "  | " ++ (dots (nat_lt 0 out) ++ (map shown (take 120 (drop out line))
    ++ (dots (nat_lt 120 (length (drop out line)))
    ++ (codes "\n  | " ++ (replicate (length (dots (nat_lt 0 out)) + (place - out)) 32 ++ codes "^\n")))))

-- the place of a column, from 1; past the line's end its end
abbrev pub place_of : ℕ → List ℕ → ℕ
place_of column line = min (column - 1) (length line)

abbrev pub marked_line : ℕ → List ℕ → List ℕ
marked_line column line = marked_at (place_of column line) (left_out (place_of column line) line) line

-- At most 120 columns of a text, and dots where it has more.
abbrev pub columns : List ℕ → List ℕ
columns text = map shown (take 120 text) ++ dots (nat_lt 120 (length text))
