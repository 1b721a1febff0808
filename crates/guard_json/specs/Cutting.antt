-- Parts of a line, and which of them are numbers, paths and codes.
use Rattle.std.specs.Prelude.{ℕ, ◌+◌, ◌-◌, Bool, false, ◌&&◌, ◌==◌, cond, nat_le, List, [], ◌∷◌, take, drop, length}
use Rattle.std.specs.Char.{is_ascii_digit}
use Rattle.std.specs.List.{list_all, position_or_len}

-- where the first mark is in the text, or the end
abbrev pub place_of : ℕ → List ℕ → ℕ
place_of mark text = position_or_len (λ c. c == mark) text

-- what stands before the first mark in the text, or all of it
abbrev pub up_to : ℕ → List ℕ → List ℕ
up_to mark text = take (place_of mark text) text

-- the first mark in the text and what comes after it
abbrev pub from : ℕ → List ℕ → List ℕ
from mark text = drop (place_of mark text) text

-- what comes after the first mark in the text; nothing where there is none
abbrev pub behind : ℕ → List ℕ → List ℕ
behind mark text = drop (place_of mark text + 1) text

abbrev pub last_two : List ℕ → List ℕ
last_two text = drop (length text - 2) text

abbrev pub but_last_two : List ℕ → List ℕ
but_last_two text = take (length text - 2) text

abbrev pub blank : ℕ
blank = 32

abbrev pub line_feed : ℕ
line_feed = 10

-- a number as `decimal` writes it: digits, of which only one that stands alone is a first 0
abbrev pub is_number : List ℕ → Bool
is_number [] = false
is_number (c ∷ cs) = is_ascii_digit c && cond (c == 48) (length cs == 0) (list_all is_ascii_digit cs)

-- printed ASCII without the blank
abbrev pub is_visible : ℕ → Bool
is_visible c = nat_le 33 c && nat_le c 126

-- `$` and what is visible
abbrev pub is_path : List ℕ → Bool
is_path [] = false
is_path (c ∷ cs) = c == 36 && list_all is_visible cs

-- a capital letter and a number, as faults have it
abbrev pub is_code : List ℕ → Bool
is_code [] = false
is_code (c ∷ cs) = nat_le 65 c && nat_le c 90 && is_number cs
