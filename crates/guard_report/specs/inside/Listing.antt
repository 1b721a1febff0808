-- A list of characters, one character after another: what each appends, by what comes last before it.
use Rattle.std.specs.Prelude.{ℕ, true, false, List, [], ◌∷◌, ◌++◌, codes, flat_map, map, Option, if◌then◌else◌}
use Rattle.guard_model.specs.declared.ty.CharKind.{CharKind}
use Rattle.guard_report.specs.declared.characters.Last.{Last}
use Rattle.guard_report.specs.declared.characters.Last.TheVariants.{Nothing, Run, Numbers}
use Rattle.guard_report.specs.declared.layout.Layout.TheVariants.{Line}
use Rattle.guard_report.specs.Layouts.{in_braces, parts_from}
use Rattle.guard_report.specs.CharacterStrings.{Piece, run, hidden, is_hidden, as_quoted, numbers_of, piece_text}
use Rattle.guard_report.specs.CharacterStrings.{pieces_of}

abbrev pub end_of : Last → List ℕ
end_of Nothing = []
end_of Run = codes "\", "
end_of Numbers = codes ", "

abbrev pub opening : Last → List ℕ
opening Nothing = codes "\""
opening Run = []
opening Numbers = codes ", \""

abbrev pub listed : Option CharKind → Last → ℕ → List ℕ
listed kind last code = if is_hidden code then end_of last ++ numbers_of kind code else opening last ++ as_quoted code

abbrev pub last_of : ℕ → Last
last_of code = if is_hidden code then Numbers else Run

abbrev pub list_of_pieces : Option CharKind → List ℕ → List ℕ
list_of_pieces kind characters = in_braces Line (map (piece_text kind) (pieces_of characters))

abbrev pub end_of_list : Last → List ℕ
end_of_list Nothing = codes "}"
end_of_list Run = codes "\"}"
end_of_list Numbers = codes "}"

-- ---- what is still to come

-- after a run whose quotes are open
abbrev pub after_run : Option CharKind → List Piece → List ℕ
after_run kind (run characters ∷ pieces) =
    flat_map as_quoted characters ++ codes "\"" ++ parts_from Line false (map (piece_text kind) pieces)
after_run kind (hidden code ∷ pieces) =
    codes "\"" ++ parts_from Line false (map (piece_text kind) (hidden code ∷ pieces))
after_run kind [] = codes "\"" ++ parts_from Line false []

abbrev pub rest_of : Option CharKind → Last → List Piece → List ℕ
rest_of kind Nothing pieces = parts_from Line true (map (piece_text kind) pieces)
rest_of kind Numbers pieces = parts_from Line false (map (piece_text kind) pieces)
rest_of kind Run pieces = after_run kind pieces

abbrev pub still_to_come : Option CharKind → Last → List ℕ → List ℕ
still_to_come kind last characters = rest_of kind last (pieces_of characters)
