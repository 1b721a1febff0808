-- Which octets are white space, a comment, a word, a number, a string or a mark (X.680 clause 12).
use Rattle.std.specs.Prelude.{◌≡◌, ℕ, zero, suc, ◌+◌, ◌-◌, ◌*◌, Bool, true, false, List, [], ◌∷◌, ◌&&◌, ◌||◌, ◌==◌, if◌then◌else◌, not, length, fold, IsTrue}
use Rattle.std.specs.List.{list_all}
use Rattle.guard_lexer.specs.Octets.{is_letter, is_digit, is_letter_or_digit, is_hyphen, is_line_end, is_quote, is_apostrophe, is_slash, is_asterisk, is_of_bits, is_of_hexadecimal, is_white_space, begins}
use Rattle.guard_lexer.specs.Spelling.{mark_spelling}
use Rattle.guard_lexer.specs.declared.item.ItemKind.{ItemKind}
use Rattle.guard_lexer.specs.declared.item.ItemKind.TheVariants as item

-- An octet of a word, seen with those after it: a letter, a digit, or a hyphen with a letter or digit after it.
abbrev pub is_of_word : ℕ → List ℕ → Bool
is_of_word octet after = is_letter_or_digit octet || (is_hyphen octet && begins is_letter_or_digit after)

abbrev pub are_of_word : List ℕ → Bool
are_of_word [] = true
are_of_word (octet ∷ octets) = is_of_word octet octets && are_of_word octets

-- a letter, then letters, digits and hyphens (12.2.1, 12.3)
abbrev pub is_word : List ℕ → Bool
is_word [] = false
is_word (octet ∷ octets) = is_letter octet && are_of_word octets

-- one or more digits, the first a 0 only where it's the only one (12.8)
abbrev pub is_number : List ℕ → Bool
is_number [] = false
is_number (octet ∷ octets) = is_digit octet && list_all is_digit octets && (not (octet == 48) || length octets == 0)

-- the number that digits write
abbrev pub number_value : List ℕ → ℕ
number_value digits = fold (λ value digit. value * 10 + (digit - 48)) 0 digits

-- After the hyphens that open a comment come no line end, and no two hyphens but those that close it (12.6.3).
abbrev pub is_line_comment_body : List ℕ → Bool
is_line_comment_body [] = true
is_line_comment_body (octet ∷ octets) =
    if is_line_end octet then false
    else (if is_hyphen octet && begins is_hyphen octets then length octets == 1 else is_line_comment_body octets)

abbrev pub is_line_comment : List ℕ → Bool
is_line_comment [] = false
is_line_comment (octet ∷ []) = false
is_line_comment (first ∷ second ∷ body) = is_hyphen first && is_hyphen second && is_line_comment_body body

-- Two octets that open or close a comment.
abbrev pub opens : ℕ → ℕ → Bool
opens first second = is_slash first && is_asterisk second

abbrev pub closes : ℕ → ℕ → Bool
closes first second = is_asterisk first && is_slash second

abbrev pub begins_comment : List ℕ → Bool
begins_comment [] = false
begins_comment (octet ∷ []) = false
begins_comment (first ∷ second ∷ octets) = opens first second

abbrev pub ends_comment : List ℕ → Bool
ends_comment [] = false
ends_comment (octet ∷ []) = false
ends_comment (first ∷ second ∷ octets) = closes first second

-- With so many comments open inside the outermost one, the octets close them all, the outermost at their end (12.6.4).
abbrev pub is_block_rest : ℕ → List ℕ → Bool
is_block_rest inner [] = false
is_block_rest inner (octet ∷ []) = false
is_block_rest inner (first ∷ second ∷ octets) =
    if opens first second then is_block_rest (suc inner) octets
    else (if closes first second
    then elim inner [ zero ↦ length octets == 0 | suc others ↦ is_block_rest others octets ]
    else is_block_rest inner (second ∷ octets))

abbrev pub is_block_comment : List ℕ → Bool
is_block_comment [] = false
is_block_comment (octet ∷ []) = false
is_block_comment (first ∷ second ∷ octets) = opens first second && is_block_rest 0 octets

-- After the quote that opens a string come no line end, quotes in pairs, and the one that closes it (12.14).
abbrev pub is_string_rest : List ℕ → Bool
is_string_rest [] = false
is_string_rest (octet ∷ []) = is_quote octet
is_string_rest (first ∷ second ∷ octets) =
    if is_line_end first then false
    else (if is_quote first then is_quote second && is_string_rest octets else is_string_rest (second ∷ octets))

abbrev pub is_character_string : List ℕ → Bool
is_character_string [] = false
is_character_string (octet ∷ octets) = is_quote octet && is_string_rest octets

-- After the apostrophe that opens a string come its digits, the apostrophe that closes it and a letter (12.10, 12.12).
abbrev pub is_digits_rest : (ℕ → Bool) → ℕ → List ℕ → Bool
is_digits_rest digit letter [] = false
is_digits_rest digit letter (octet ∷ octets) =
    if is_apostrophe octet then begins (λ last. last == letter) octets && length octets == 1
    else digit octet && is_digits_rest digit letter octets

abbrev pub is_bit_string : List ℕ → Bool
is_bit_string [] = false
is_bit_string (octet ∷ octets) = is_apostrophe octet && is_digits_rest is_of_bits 66 octets

abbrev pub is_hexadecimal_string : List ℕ → Bool
is_hexadecimal_string [] = false
is_hexadecimal_string (octet ∷ octets) = is_apostrophe octet && is_digits_rest is_of_hexadecimal 72 octets

abbrev pub is_one_white_space : List ℕ → Bool
is_one_white_space octets = begins is_white_space octets && length octets == 1

-- The octets are an item of this kind, and `after` follows them. A quote directly after a string belongs to it.
abbrev pub IsItem : ItemKind → List ℕ → List ℕ → Type 0
IsItem item.WhiteSpace octets after = IsTrue (is_one_white_space octets)
IsItem item.LineComment octets after = IsTrue (is_line_comment octets)
IsItem item.BlockComment octets after = IsTrue (is_block_comment octets)
IsItem item.Word octets after = IsTrue (is_word octets)
IsItem item.Number octets after = IsTrue (is_number octets)
IsItem item.CharacterString octets after = IsTrue (is_character_string octets) × IsTrue (not (begins is_quote after))
IsItem item.BitString octets after = IsTrue (is_bit_string octets)
IsItem item.HexadecimalString octets after = IsTrue (is_hexadecimal_string octets)
IsItem (item.Mark mark) octets after = octets ≡ mark_spelling mark
