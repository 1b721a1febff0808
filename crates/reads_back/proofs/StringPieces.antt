-- Strings and comments.
use Rattle.std.proofs.Common.{◌≡◌, ℕ, suc, ◌-◌, Bool, true, false, ◌&&◌, not, List, [], ◌∷◌, ◌++◌, length, Option, Some, None, IsUtf8, refl, ap, ◌∙◌, option_map, arith}
use Rattle.std.specs.List.{list_all}
use Rattle.std.proofs.lemmas.Bool.{and_parts, cond-true}
use Rattle.std.proofs.lemmas.Bool.Decides.{nat_tests}
use Rattle.std.proofs.lemmas.List.{length-append}
use Rattle.guard_lexer.specs.Octets.{is_hyphen, is_line_end, is_quote, is_of_bits, is_of_hexadecimal, begins}
use Rattle.guard_lexer.specs.Items.{is_string_rest, is_digits_rest}
use Rattle.guard_lexer.specs.Lexing.{Item}
use Rattle.guard_lexer.specs.inside.Reading.{item_at, found_item, found_before, found_digit_string, behind_hexadecimal, comment_body_len}
use Rattle.guard_lexer.proofs.CommentsAndStrings.{string-append, digits-append, no_bits}
use Rattle.guard_syntax.specs.Lexemes.{Lexeme, character_string, bit_string, hexadecimal_string}
use Rattle.reads_back.proofs.Cuts.{Reads, one_more, like}

-- what is read up to what is left has the length of what stands before
before : (octets left : List ℕ) → length (octets ++ left) - length left ≡ length octets
before octets left = omega (arith, length-append octets left)

-- ---- strings in quotes

abbrev characters_item : List ℕ → Item
characters_item octets = like (34 ∷ 34 ∷ []) octets

pub character_piece : (os rest : List ℕ) (ls : List Lexeme) → IsUtf8 (34 ∷ os) → is_string_rest os ≡ true → begins is_quote rest ≡ false → Reads rest ls
    → Reads (34 ∷ os ++ rest) (character_string (34 ∷ os) ∷ ls)
character_piece os rest ls utf8 h none r =
    let i = characters_item (34 ∷ os) in
    let found : item_at (34 ∷ os ++ rest) ≡ Some (found_item i.kind (length (34 ∷ os))) =
    ap (option_map (found_before i.kind (34 ∷ os ++ rest))) (string-append os rest h none) ∙ ap (λ (n : ℕ). Some (found_item i.kind n)) (before (34 ∷ os) rest) in
    one_more i rest ls utf8 found refl r

-- ---- strings of digits

abbrev bits_item : List ℕ → Item
bits_item octets = like (39 ∷ 39 ∷ 66 ∷ []) octets

pub bits_piece : (os rest : List ℕ) (ls : List Lexeme) → IsUtf8 (39 ∷ os) → is_digits_rest is_of_bits 66 os ≡ true → Reads rest ls → Reads (39 ∷ os ++ rest) (bit_string (39 ∷ os) ∷ ls)
bits_piece os rest ls utf8 h r =
    let i = bits_item (39 ∷ os) in
    let found : item_at (39 ∷ os ++ rest) ≡ Some (found_item i.kind (length (39 ∷ os))) =
    ap (λ (o : Option (List ℕ)). found_digit_string (39 ∷ os ++ rest) o (behind_hexadecimal (os ++ rest))) (digits-append is_of_bits 66 os rest h)
    ∙ ap (λ (n : ℕ). Some (found_item i.kind n)) (before (39 ∷ os) rest) in
    one_more i rest ls utf8 found refl r

abbrev hexadecimal_item : List ℕ → Item
hexadecimal_item octets = like (39 ∷ 39 ∷ 72 ∷ []) octets

pub hexadecimal_piece : (os rest : List ℕ) (ls : List Lexeme) → IsUtf8 (39 ∷ os) → is_digits_rest is_of_hexadecimal 72 os ≡ true → Reads rest ls → Reads (39 ∷ os ++ rest) (hexadecimal_string (39 ∷ os) ∷ ls)
hexadecimal_piece os rest ls utf8 h r =
    let i = hexadecimal_item (39 ∷ os) in
    let found : item_at (39 ∷ os ++ rest) ≡ Some (found_item i.kind (length (39 ∷ os))) =
    ap (λ (o : Option (List ℕ)). found_digit_string (39 ∷ os ++ rest) o (behind_hexadecimal (os ++ rest))) (no_bits os rest h)
    ∙ ap (λ (o : Option (List ℕ)). found_digit_string (39 ∷ os ++ rest) None o) (digits-append is_of_hexadecimal 72 os rest h)
    ∙ ap (λ (n : ℕ). Some (found_item i.kind n)) (before (39 ∷ os) rest) in
    one_more i rest ls utf8 found refl r

-- ---- comments

-- no line ends and no hyphens
abbrev pub is_plain : ℕ → Bool
is_plain octet = not (is_line_end octet) && not (is_hyphen octet)

-- the text or the line ends
abbrev pub ends_line : List ℕ → Bool
ends_line [] = true
ends_line (octet ∷ octets) = is_line_end octet

comment_ends : (body rest : List ℕ) → list_all is_plain body ≡ true → ends_line rest ≡ true → comment_body_len (body ++ rest) ≡ length body
comment_ends [] [] h e = refl
comment_ends [] (c ∷ cs) h e = cond-true (is_line_end c) 0 _ e
comment_ends (c ∷ body) rest h e =
    let p = and_parts (is_plain c) (list_all is_plain body) h in
    let q = and_parts (not (is_line_end c)) (not (is_hyphen c)) p.0 in
    let goes_on : is_line_end c ≡ false = grind (arith, nat_tests, q.0) in
    let plain : is_hyphen c ≡ false = grind (arith, nat_tests, q.1) in
    rw (goes_on, plain) (ap (λ (n : ℕ). suc n) (comment_ends body rest p.1 e))

abbrev comment_item : List ℕ → Item
comment_item octets = like (45 ∷ 45 ∷ []) octets

pub comment : (body rest : List ℕ) (ls : List Lexeme) → IsUtf8 (45 ∷ 45 ∷ body) → list_all is_plain body ≡ true → ends_line rest ≡ true → Reads rest ls → Reads (45 ∷ 45 ∷ body ++ rest) ls
comment body rest ls utf8 h e r =
    let i = comment_item (45 ∷ 45 ∷ body) in
    one_more i rest ls utf8 (ap (λ (n : ℕ). Some (found_item i.kind (suc (suc n)))) (comment_ends body rest h e)) refl r
