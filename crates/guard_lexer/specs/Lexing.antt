-- The tokens of a text, or its first fault.
use Rattle.std.specs.Prelude.{◌≡◌, ℕ, ◌+◌, ◌^◌, ◌<◌, ◌≤◌, ◌-◌, Bool, false, ◌⊎◌, ◌&&◌, ◌||◌, List, [], ◌∷◌, ◌++◌, length, Option, Some, None, if◌then◌else◌, nat_le, not, IsUtf8, option_map, option_to_list}
use Rattle.guard_model.specs.declared.site.Site.{Site}
use Rattle.guard_lexer.specs.Octets.{is_letter_or_digit, is_digit, is_hyphen, is_quote, is_apostrophe, begins}
use Rattle.guard_lexer.specs.Items.{IsItem, number_value, begins_comment}
use Rattle.guard_lexer.specs.Words.{word_kind}
use Rattle.guard_lexer.specs.Sites.{site_at}
use Rattle.guard_lexer.specs.declared.fault.LexFault.{LexFault}
use Rattle.guard_lexer.specs.declared.fault.LexFault.TheVariants as faults
use Rattle.guard_lexer.specs.declared.item.ItemKind.{ItemKind}
use Rattle.guard_lexer.specs.declared.item.ItemKind.TheVariants as item
use Rattle.guard_lexer.specs.declared.token.Token.{Token}
use Rattle.guard_lexer.specs.declared.token.TokenKind.{TokenKind}
use Rattle.guard_lexer.specs.declared.token.TokenKind.TheVariants as kind

-- White space, a comment or a token, with its octets.
pub record Item : Type 0 where
  pub kind : ItemKind
  pub octets : List ℕ

-- The text begins with the item, `left` is what follows it, and the text begins with no longer one.
pub record IsLongest (text : List ℕ) (item : Item) (left : List ℕ) : Type 0 where
  pub split : text ≡ item.octets ++ left
  pub is_item : IsItem item.kind item.octets left
  pub longest : (other : Item) (after : List ℕ) → text ≡ other.octets ++ after → IsItem other.kind other.octets after
      → length other.octets ≤ length item.octets

-- A fault that is so many octets after the place where it is found.
pub record OffsetFault : Type 0 where
  pub offset : ℕ
  pub fault : Site → LexFault

-- a hyphen that neither continues a word nor begins a comment
abbrev pub is_lone_hyphen : List ℕ → Bool
is_lone_hyphen [] = false
is_lone_hyphen (octet ∷ octets) =
    is_hyphen octet && not (begins is_letter_or_digit octets) && not (begins is_hyphen octets)

abbrev pub bad_character : ℕ → OffsetFault
bad_character offset = record { offset = offset; fault = λ site. faults.BadCharacter site }

abbrev pub bad_hyphen : OffsetFault
bad_hyphen = record { offset = 0; fault = λ site. faults.BadHyphen site }

abbrev pub bad_string : OffsetFault
bad_string = record { offset = 0; fault = λ site. faults.BadString site }

abbrev pub open_comment : OffsetFault
open_comment = record { offset = 0; fault = λ site. faults.OpenComment site }

abbrev pub number_too_large : OffsetFault
number_too_large = record { offset = 0; fault = λ site. faults.NumberTooLarge site }

-- What is wrong with an item, by its octets and what is left after it. (Of numbers only 0 can have a digit after it.)
abbrev pub item_fault : ItemKind → List ℕ → List ℕ → Option OffsetFault
item_fault item.WhiteSpace octets after = None
item_fault item.LineComment octets after = None
item_fault item.BlockComment octets after = None
item_fault item.Word octets after = if is_lone_hyphen after then Some bad_hyphen else None
item_fault item.Number octets after =
    if nat_le (2 ^ 128) (number_value octets) then Some number_too_large
    else (if begins is_digit after then Some (bad_character (length octets)) else None)
item_fault item.CharacterString octets after = None
item_fault item.BitString octets after = None
item_fault item.HexadecimalString octets after = None
item_fault (item.Mark mark) octets after = None

-- Up to `left` the text is these items in turn, each the longest where it begins, and none at fault.
abbrev pub IsCut : List ℕ → List Item → List ℕ → Type 0
IsCut text [] left = text ≡ left
IsCut text (item ∷ items) left =
    (after : List ℕ) × IsLongest text item after × (item_fault item.kind item.octets after ≡ None)
    × IsCut after items left

abbrev pub kind_of : ItemKind → List ℕ → Option TokenKind
kind_of item.WhiteSpace octets = None
kind_of item.LineComment octets = None
kind_of item.BlockComment octets = None
kind_of item.Word octets = Some (word_kind octets)
kind_of item.Number octets = Some kind.Number
kind_of item.CharacterString octets = Some kind.CharacterString
kind_of item.BitString octets = Some kind.BitString
kind_of item.HexadecimalString octets = Some kind.HexadecimalString
kind_of (item.Mark mark) octets = Some (kind.Mark mark)

-- the token that an item is, where it is one, at this offset of the text
abbrev pub token_of : ℕ → List ℕ → ℕ → Item → Option Token
token_of place text start item =
    option_map (λ kind. record {
      kind = kind;
      start = start;
      end = start + length item.octets;
      site = site_at place text start;
    }) (kind_of item.kind item.octets)

-- the tokens among items that follow one another in the text from this offset on
abbrev pub tokens_from : ℕ → List ℕ → ℕ → List Item → List Token
tokens_from place text start [] = []
tokens_from place text start (item ∷ items) =
    option_to_list (token_of place text start item) ++ tokens_from place text (start + length item.octets) items

-- the text begins with no item
abbrev pub BeginsNone : List ℕ → Type 0
BeginsNone text =
    (item : Item) (after : List ℕ) → text ≡ item.octets ++ after → ¬ (IsItem item.kind item.octets after)

-- What is wrong where no item begins: what looks like a string, a comment that isn't closed, else the first character.
abbrev pub no_item_fault : List ℕ → OffsetFault
no_item_fault left =
    if begins is_quote left || begins is_apostrophe left then bad_string
    else (if begins_comment left then open_comment else bad_character 0)

-- What is wrong at the front of what is left: no item begins there, or the one that does is at fault.
abbrev pub HasFault : List ℕ → OffsetFault → Type 0
HasFault left wrong =
    ((0 < length left) × BeginsNone left × (wrong ≡ no_item_fault left))
    ⊎ ((item : Item) × (after : List ℕ) × IsLongest left item after
    × (item_fault item.kind item.octets after ≡ Some wrong))

-- The leftmost fault: all before it are items without fault.
abbrev pub FaultAt : ℕ → List ℕ → LexFault → Type 0
FaultAt place text fault =
    (items : List Item) × (left : List ℕ) × (wrong : OffsetFault)
    × IsCut text items left × HasFault left wrong
    × (fault ≡ wrong.fault (site_at place text (length text - length left + wrong.offset)))

abbrev pub longest_text : ℕ
longest_text = 1048576

-- the text is UTF-8 and has at most 1,048,576 octets
pub record IsText (text : List ℕ) : Type 0 where
  pub short : length text ≤ longest_text
  pub utf8 : IsUtf8 text

-- These are the tokens of the text.
pub record Lexes (place : ℕ) (text : List ℕ) (tokens : List Token) : Type 0 where
  pub lawful : IsText text
  pub items : List Item
  pub cut : IsCut text items []
  pub tokens_are : tokens ≡ tokens_from place text 0 items

-- This is the fault that is named: that the text is too long, else that it isn't UTF-8, else the leftmost one.
abbrev pub FirstFault : ℕ → List ℕ → LexFault → Type 0
FirstFault place text fault =
    ((longest_text < length text) × (fault ≡ faults.TextTooLong place))
    ⊎ ((length text ≤ longest_text) × ¬ (IsUtf8 text) × (fault ≡ faults.NotUtf8 place))
    ⊎ (IsText text × FaultAt place text fault)

-- a refusal names a fault of the text, unless memory ran out
abbrev pub fault_named : LexFault → Option LexFault
fault_named faults.OutOfMemory = None
fault_named (faults.BadCharacter site) = Some (faults.BadCharacter site)
fault_named (faults.BadString site) = Some (faults.BadString site)
fault_named (faults.OpenComment site) = Some (faults.OpenComment site)
fault_named (faults.BadHyphen site) = Some (faults.BadHyphen site)
fault_named (faults.NumberTooLarge site) = Some (faults.NumberTooLarge site)
fault_named (faults.NotUtf8 place) = Some (faults.NotUtf8 place)
fault_named (faults.TextTooLong place) = Some (faults.TextTooLong place)
