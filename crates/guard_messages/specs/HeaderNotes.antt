-- What is shown of the body of a frame: each name that stands in its place; and where it isn't three names and a message,
-- why the next one is none, and the first octets.
use Rattle.std.specs.Prelude.{ℕ, Bool, true, false, ◌||◌, List, [], ◌∷◌, ◌++◌, codes, decimal, length, take, drop, nat_eq, nat_lt, if◌then◌else◌, Option, Some, None, option_map}
use Rattle.hex.specs.Hex.{encode_upper}
use Rattle.guard_policy.specs.Names.{is_name}
use Rattle.guard_frames.specs.Bodies.{AbstractBody}
use Rattle.guard_messages.specs.Questions.{AbstractSpot, written, kept, framed}

-- the first octet that is no name where it stands alone, as each octet of a name is
abbrev pub first_other : List ℕ → Option ℕ
first_other [] = None
first_other (o ∷ octets) = if is_name (o ∷ []) then first_other octets else Some o

abbrev pub other_text : ℕ → List ℕ
other_text o =
    codes "the octet " ++ (encode_upper (o ∷ []) ++ codes " in it is no letter, digit, -, _ or .")

abbrev pub length_text : ℕ → List ℕ
length_text n = codes "its length is " ++ (decimal n ++ codes ", and a name has 1 to 63 octets")

abbrev pub cut_text : ℕ → ℕ → List ℕ
cut_text n there = codes "its length is " ++ (decimal n ++ (codes ", and the frame ends after " ++ decimal there))

abbrev pub end_text : List ℕ
end_text = codes "the frame ends before it"

-- why no name of so many octets begins behind its length
abbrev pub unnamed_of : ℕ → List ℕ → Option (List ℕ)
unnamed_of n octets =
    if nat_eq n 0 || nat_lt 63 n then Some (length_text n)
    else if nat_lt (length octets) n then Some (cut_text n (length octets))
    else option_map other_text (first_other (take n octets))

-- why no name stands at the beginning of these octets, after its length; none where one does
abbrev pub unnamed : List ℕ → Option (List ℕ)
unnamed [] = Some end_text
unnamed (n ∷ octets) = unnamed_of n octets

-- the name after its length
abbrev pub name_at : List ℕ → List ℕ
name_at [] = []
name_at (n ∷ octets) = take n octets

-- what follows the name and its length
abbrev pub behind_name : List ℕ → List ℕ
behind_name [] = []
behind_name (n ∷ octets) = drop n octets

abbrev pub name_line : List ℕ → List ℕ → List ℕ
name_line word name = codes "  " ++ (word ++ (codes " " ++ (name ++ codes "\n")))

abbrev pub why_line : List ℕ → List ℕ → List ℕ
why_line word why = codes "  no " ++ (word ++ (codes ": " ++ (why ++ codes "\n")))

-- a line for each of these names in turn, up to the first that isn't there
abbrev pub name_lines : List (List ℕ) → List ℕ → List ℕ
name_lines [] octets = []
name_lines (word ∷ words) octets = elim (unnamed octets) [
  | None ↦ name_line word (name_at octets) ++ name_lines words (behind_name octets)
  | Some why ↦ why_line word why
]

abbrev pub parts : List (List ℕ)
parts = codes "sender" ∷ codes "receiver" ∷ codes "message" ∷ []

-- the first 59 octets, which take 118 columns, where there are any
abbrev pub octets_line : List ℕ → List ℕ
octets_line [] = []
octets_line (o ∷ body) = codes "  " ++ (encode_upper (take 59 (o ∷ body)) ++ codes "\n")

abbrev pub header_note : List ℕ → List ℕ
header_note body = name_lines parts body ++ octets_line body

-- what is shown of the body of any frame: of three names and a message the names alone
abbrev pub frame_note : Option AbstractBody → List ℕ → List ℕ
frame_note (Some b) body = name_lines parts body
frame_note None body = header_note body

-- what is shown of the octets at a spot, to explain them: those of digits or a file are no frame
abbrev pub spot_note : Bool → AbstractSpot → Option AbstractBody → List ℕ → List ℕ
spot_note false spot held octets = []
spot_note true (written digits) held octets = []
spot_note true (kept path) held octets = []
spot_note true (framed number link) held octets = frame_note held octets
