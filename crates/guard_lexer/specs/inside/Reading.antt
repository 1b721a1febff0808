-- What a text begins with, read from left to right.
use Rattle.std.specs.Prelude.{ℕ, zero, suc, ◌-◌, Bool, List, [], ◌∷◌, ◌≡◌, ◌<◌, ◌≤◌, ◌++◌, ◌&&◌, ◌==◌, if◌then◌else◌, length, take, drop, find, Option, Some, None, option_map, bytes_eq}
use Rattle.std.specs.List.{prefix_len}
use Rattle.guard_lexer.specs.Octets.{is_letter, is_digit, is_hyphen, is_line_end, is_quote, is_apostrophe, is_slash, is_asterisk, is_of_bits, is_of_hexadecimal, is_white_space, begins}
use Rattle.guard_lexer.specs.Items.{is_of_word, opens, closes}
use Rattle.guard_lexer.specs.Spelling.{mark_spelling, marks}
use Rattle.guard_lexer.specs.Sites.{site_after}
use Rattle.guard_lexer.specs.Lexing.{Item, IsLongest, OffsetFault, item_fault, HasFault}
use Rattle.guard_lexer.specs.declared.fault.LexFault.{LexFault}
use Rattle.guard_lexer.specs.declared.item.FoundItem.{FoundItem}
use Rattle.guard_lexer.specs.declared.item.ItemKind.{ItemKind}
use Rattle.guard_lexer.specs.declared.item.ItemKind.TheVariants as item
use Rattle.guard_lexer.specs.declared.token.Mark.{Mark}

-- what stands beside the first key that passes the test
abbrev pub value_at : {A B : Type 0} → (A → Bool) → List (A × B) → Option B
value_at test [] = None
value_at test (entry ∷ entries) = if test entry.0 then Some entry.1 else value_at test entries

-- how many octets at the front are of a word
abbrev pub word_len : List ℕ → ℕ
word_len [] = 0
word_len (octet ∷ octets) = if is_of_word octet octets then suc (word_len octets) else 0

-- a 0 is a number alone
abbrev pub number_len : ℕ → List ℕ → ℕ
number_len first after = if first == 48 then 1 else suc (prefix_len is_digit after)

-- how many octets belong to a comment after the hyphens that open it
abbrev pub comment_body_len : List ℕ → ℕ
comment_body_len [] = 0
comment_body_len (octet ∷ octets) =
    if is_line_end octet then 0
    else (if is_hyphen octet && begins is_hyphen octets then 2 else suc (comment_body_len octets))

-- What is left after a block comment, with so many comments open inside it; nothing where it isn't closed.
abbrev pub behind_block_comment : ℕ → List ℕ → Option (List ℕ)
behind_block_comment inner [] = None
behind_block_comment inner (octet ∷ []) = None
behind_block_comment inner (first ∷ second ∷ octets) =
    if opens first second then behind_block_comment (suc inner) octets
    else (if closes first second
    then elim inner [ zero ↦ Some octets | suc others ↦ behind_block_comment others octets ]
    else behind_block_comment inner (second ∷ octets))

-- what is left after a string; nothing where it isn't closed
abbrev pub behind_string : List ℕ → Option (List ℕ)
behind_string [] = None
behind_string (octet ∷ []) = if is_quote octet then Some [] else None
behind_string (first ∷ second ∷ octets) =
    if is_line_end first then None
    else (if is_quote first then (if is_quote second then behind_string octets else Some (second ∷ octets))
    else behind_string (second ∷ octets))

-- what is left after such digits, an apostrophe and the letter
abbrev pub behind_digits : (ℕ → Bool) → ℕ → List ℕ → Option (List ℕ)
behind_digits digit letter [] = None
behind_digits digit letter (octet ∷ []) = None
behind_digits digit letter (first ∷ second ∷ octets) =
    if is_apostrophe first then (if second == letter then Some octets else None)
    else (if digit first then behind_digits digit letter (second ∷ octets) else None)

abbrev pub behind_bits : List ℕ → Option (List ℕ)
behind_bits octets = behind_digits is_of_bits 66 octets

abbrev pub behind_hexadecimal : List ℕ → Option (List ℕ)
behind_hexadecimal octets = behind_digits is_of_hexadecimal 72 octets

abbrev pub stands_at : List ℕ → Mark → Bool
stands_at text mark = bytes_eq (mark_spelling mark) (take (length (mark_spelling mark)) text)

-- the first mark of the table that the text begins with
unfoldable pub mark_at : List ℕ → Option Mark
mark_at text = find (stands_at text) marks

abbrev pub found_item : ItemKind → ℕ → FoundItem
found_item kind len = record { kind = kind; len = len }

abbrev pub found_mark : Mark → FoundItem
found_mark mark = found_item (item.Mark mark) (length (mark_spelling mark))

-- the item of a text that ends where what is left begins
abbrev pub found_before : ItemKind → List ℕ → List ℕ → FoundItem
found_before kind text left = found_item kind (length text - length left)

abbrev pub found_digit_string : List ℕ → Option (List ℕ) → Option (List ℕ) → Option FoundItem
found_digit_string text (Some left) other = Some (found_before item.BitString text left)
found_digit_string text None other = option_map (found_before item.HexadecimalString text) other

-- the longest comment, string or mark that the text begins with
abbrev pub marked_item_at : List ℕ → Option FoundItem
marked_item_at [] = None
marked_item_at (first ∷ after) =
    if is_hyphen first && begins is_hyphen after
    then Some (found_item item.LineComment (suc (suc (comment_body_len (drop 1 after)))))
    else (if is_quote first then option_map (found_before item.CharacterString (first ∷ after)) (behind_string after)
    else (if is_apostrophe first
    then found_digit_string (first ∷ after) (behind_bits after) (behind_hexadecimal after)
    else (if is_slash first && begins is_asterisk after
    then option_map (found_before item.BlockComment (first ∷ after)) (behind_block_comment 0 (drop 1 after))
    else option_map found_mark (mark_at (first ∷ after)))))

-- the longest item that the text begins with
abbrev pub item_at : List ℕ → Option FoundItem
item_at [] = None
item_at (first ∷ after) =
    if is_white_space first then Some (found_item item.WhiteSpace 1)
    else (if is_letter first then Some (found_item item.Word (suc (word_len after)))
    else (if is_digit first then Some (found_item item.Number (number_len first after))
    else marked_item_at (first ∷ after)))

abbrev pub item_of : List ℕ → FoundItem → Item
item_of text p = record { kind = p.kind; octets = take p.len text }

-- the longest item at the front, with no fault
pub record IsFaultlessItem (left : List ℕ) (p : FoundItem) : Type 0 where
  pub some : 0 < p.len
  pub within : p.len ≤ length left
  pub longest : IsLongest left (item_of left p) (drop p.len left)
  pub fine : item_fault p.kind (take p.len left) (drop p.len left) ≡ None

-- the fault at the front of what is left after these octets
abbrev pub IsFaultAt : ℕ → List ℕ → List ℕ → LexFault → Type 0
IsFaultAt place before left fault =
    (wrong : OffsetFault) × HasFault left wrong
    × (fault ≡ wrong.fault (site_after place (before ++ take wrong.offset left)))
