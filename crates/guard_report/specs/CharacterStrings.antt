-- How a character string is written (X.680 clause 41).
use Rattle.std.specs.Prelude.{ℕ, ◌/◌, ◌%◌, Bool, ◌&&◌, ◌||◌, not, List, [], ◌∷◌, ◌++◌, codes, decimal, flat_map, map}
use Rattle.std.specs.Prelude.{nat_le, nat_eq, encode_utf8, Option, Some, if◌then◌else◌}
use Rattle.std.specs.List.{list_all}
use Rattle.guard_model.specs.declared.ty.CharKind.{CharKind}
use Rattle.guard_model.specs.declared.ty.CharKind.TheVariants.{Ia5}
use Rattle.guard_report.specs.declared.layout.Layout.TheVariants.{Line}
use Rattle.guard_report.specs.Layouts.{in_braces}

abbrev pub is_within : ℕ → ℕ → ℕ → Bool
is_within first last code = nat_le first code && nat_le code last

-- Characters that nobody sees, or that change where others appear: controls, marks of direction and width, ends of
-- lines and paragraphs, tags.
abbrev pub is_hidden : ℕ → Bool
is_hidden code =
    is_within 0 31 code || is_within 127 159 code || nat_eq code 173 || nat_eq code 1564 || is_within 8203 8207 code
    || is_within 8232 8238 code || is_within 8288 8303 code || nat_eq code 65279 || is_within 65529 65531 code
    || is_within 917504 921599 code

-- between double quotes: a quote is written twice (12.14)
abbrev pub as_quoted : ℕ → List ℕ
as_quoted code = if nat_eq code 34 then codes "\"\"" else encode_utf8 code

abbrev pub in_quotes : List ℕ → List ℕ
in_quotes characters = codes "\"" ++ flat_map as_quoted characters ++ codes "\""

-- ---- characters by their numbers

-- the group, plane, row and cell of a character; of an IA5String its column and row in the table of its characters
abbrev pub numbers_of : Option CharKind → ℕ → List ℕ
numbers_of (Some Ia5) code = codes "{" ++ decimal (code / 16) ++ codes ", " ++ decimal (code % 16) ++ codes "}"
numbers_of _ code =
    codes "{0, " ++ decimal (code / 65536) ++ codes ", " ++ decimal (code / 256 % 256)
    ++ codes ", " ++ decimal (code % 256)
    ++ codes "}"

-- a run of characters that are seen, or a hidden one
pub data Piece : Type 0 where
  run : List ℕ → Piece
  hidden : ℕ → Piece

abbrev pub before_pieces : ℕ → List Piece → List Piece
before_pieces code (run characters ∷ pieces) = run (code ∷ characters) ∷ pieces
before_pieces code (hidden other ∷ pieces) = run (code ∷ []) ∷ hidden other ∷ pieces
before_pieces code [] = run (code ∷ []) ∷ []

-- the longest runs, and the hidden characters between them
abbrev pub pieces_of : List ℕ → List Piece
pieces_of [] = []
pieces_of (code ∷ characters) =
    if is_hidden code then hidden code ∷ pieces_of characters else before_pieces code (pieces_of characters)

abbrev pub piece_text : Option CharKind → Piece → List ℕ
piece_text kind (run characters) = in_quotes characters
piece_text kind (hidden code) = numbers_of kind code

-- in quotes where each character is seen; else a list of what is seen and of hidden characters by their numbers
abbrev pub characters_text : Option CharKind → List ℕ → List ℕ
characters_text kind characters =
    if list_all (λ code. not (is_hidden code)) characters then in_quotes characters
    else in_braces Line (map (piece_text kind) (pieces_of characters))
