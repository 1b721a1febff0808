-- What more is said of a fault of a module, by the octets at its place.
use Rattle.std.specs.Prelude.{◌&&◌, ◌||◌, ℕ, Bool, nat_le, nat_eq, List, [], ◌∷◌, codes, drop, slice_get, unwrap_or, if◌then◌else◌}
use Rattle.std.specs.List.{starts_with}
use Rattle.guard_model.specs.declared.site.Site.{Site}
use Rattle.guard_lexer.specs.Octets.{is_digit}
use Rattle.guard_notes.specs.Marking.{line_at, place_of}

-- the octets at a place of a text, to the end of the line
abbrev pub octets_at : Site → List ℕ → List ℕ
octets_at site text = drop (place_of site.column (line_at site.line text)) (line_at site.line text)

-- the octet at a place, and 0 where there is none
abbrev pub octet : ℕ → List ℕ → ℕ
octet place rest = unwrap_or (slice_get rest place) 0

-- U+2018 to U+201F: quotes, single and double, of one form and another
abbrev pub is_curly_quote : List ℕ → Bool
is_curly_quote rest = starts_with nat_eq rest (226 ∷ 128 ∷ []) && nat_le 152 (octet 2 rest) && nat_le (octet 2 rest) 159

-- U+2010 to U+2015: hyphens and dashes
abbrev pub is_dash : List ℕ → Bool
is_dash rest = starts_with nat_eq rest (226 ∷ 128 ∷ []) && nat_le 144 (octet 2 rest) && nat_le (octet 2 rest) 149

-- `#`, 35, or `//`, 47 twice, which begin comments in other notations
abbrev pub begins_comment : List ℕ → Bool
begins_comment rest = starts_with nat_eq rest (35 ∷ []) || starts_with nat_eq rest (47 ∷ 47 ∷ [])

-- what is said of an octet at which no token begins: it is outside ASCII; a low line, 95; an equals sign, 61; a digit,
-- which no token begins with only after the number 0
abbrev pub octet_line : ℕ → List ℕ
octet_line o =
    if nat_le 128 o then codes "  This character is not in ASCII. Only comments and strings may have such.\n"
    else if nat_eq o 95 then codes "  A name has no low line. Write a hyphen, -.\n"
    else if nat_eq o 61 then codes "  An equals sign assigns nothing. Write ::=.\n"
    else if is_digit o then codes "  A digit comes after the number 0. Numbers have no leading zeros.\n"
    else []

-- what the character there is: U+FEFF, one of those above, U+00A0, a mark of comments elsewhere, or any other
abbrev pub character_line : List ℕ → List ℕ
character_line rest =
    if starts_with nat_eq rest (239 ∷ 187 ∷ 191 ∷ [])
    then codes "  This is a byte order mark. Save the file without one.\n"
    else if is_curly_quote rest then codes "  This is a typographic quote. Write a straight one, \" or '.\n"
    else if is_dash rest then codes "  This is a typographic dash. Write a hyphen, -.\n"
    else if starts_with nat_eq rest (194 ∷ 160 ∷ []) then codes "  This is a no-break space. Write a blank.\n"
    else if begins_comment rest then codes "  A comment begins with two hyphens. Write --.\n"
    else octet_line (octet 0 rest)
