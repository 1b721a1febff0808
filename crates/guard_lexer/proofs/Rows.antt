-- The definitions, computed on examples.
use Rattle.std.proofs.Common.{◌≡◌, ◌^◌, true, false, [], ◌∷◌, ◌++◌, refl}
use Rattle.std.specs.Prelude.{codes}
use Rattle.guard_lexer.specs.Items.{is_word, is_number, number_value, is_line_comment, is_block_comment, is_character_string, is_bit_string, is_hexadecimal_string}
use Rattle.guard_lexer.specs.Sites.{site_after}
use Rattle.guard_lexer.specs.Words.{word_kind}
use Rattle.guard_lexer.specs.declared.token.Reserved.TheVariants as word
use Rattle.guard_lexer.specs.declared.token.TokenKind.TheVariants as kind

-- a hyphen belongs to a word only before a letter or digit
single_hyphens : is_word (codes "a-b-1") ≡ true
single_hyphens = refl

last_hyphen : is_word (codes "a-") ≡ false
last_hyphen = refl

two_hyphens : is_word (codes "a--b") ≡ false
two_hyphens = refl

digit_first : is_word (codes "1a") ≡ false
digit_first = refl

zero_alone : is_number (codes "0") ≡ true
zero_alone = refl

zero_first : is_number (codes "07") ≡ false
zero_first = refl

two_to_128 : number_value (codes "340282366920938463463374607431768211456") ≡ 2 ^ 128
two_to_128 = refl

-- the hyphens that open a comment don't close it
three_hyphens : is_line_comment (codes "---") ≡ true
three_hyphens = refl

closed_comment : is_line_comment (codes "-- a --") ≡ true
closed_comment = refl

behind_comment : is_line_comment (codes "-- a -- b") ≡ false
behind_comment = refl

nested_comments : is_block_comment (codes "/* a /* b */ c */") ≡ true
nested_comments = refl

inner_closing : is_block_comment (codes "/* a /* b */") ≡ false
inner_closing = refl

behind_block : is_block_comment (codes "/* a */ b */") ≡ false
behind_block = refl

slash_between : is_block_comment (codes "/*/") ≡ false
slash_between = refl

doubled_quote : is_character_string (34 ∷ codes "a" ++ 34 ∷ 34 ∷ codes "b" ++ 34 ∷ []) ≡ true
doubled_quote = refl

quote_inside : is_character_string (34 ∷ codes "a" ++ 34 ∷ codes "b" ++ 34 ∷ []) ≡ false
quote_inside = refl

line_end_inside : is_character_string (34 ∷ codes "a" ++ 10 ∷ 34 ∷ []) ≡ false
line_end_inside = refl

space_inside : is_bit_string (codes "'0 1'B") ≡ true
space_inside = refl

two_inside : is_bit_string (codes "'12'B") ≡ false
two_inside = refl

no_digits : is_hexadecimal_string (codes "''H") ≡ true
no_digits = refl

small_letter : is_hexadecimal_string (codes "'0aF'H") ≡ false
small_letter = refl

reserved : word_kind (codes "SIZE") ≡ kind.Reserved word.Size
reserved = refl

unsupported : word_kind (codes "TIME-OF-DAY") ≡ kind.Unsupported
unsupported = refl

one_letter_more : word_kind (codes "SIZEx") ≡ kind.UpperName
one_letter_more = refl

small_letter_first : word_kind (codes "sIZE") ≡ kind.LowerName
small_letter_first = refl

-- a column counts octets
second_line : site_after 1 (codes "ab" ++ 10 ∷ 195 ∷ 169 ∷ []) ≡ record { text = 1; line = 2; column = 3 }
second_line = refl
