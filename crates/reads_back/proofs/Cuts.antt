-- A text is cut into items up to its end: what one more item at the front adds.
use Rattle.std.proofs.Common.{◌≡◌, ℕ, List, [], ◌∷◌, ◌++◌, length, drop, Option, Some, None, IsUtf8, refl, ap, subst, option_map, option_to_list, take_at, drop_at}
use Rattle.std.proofs.lemmas.Str.{IsUtf8-append}
use Rattle.guard_lexer.specs.Lexing.{Item, IsLongest, item_fault, IsCut, kind_of}
use Rattle.guard_lexer.specs.inside.Reading.{item_at, item_of, found_item, found_mark}
use Rattle.guard_lexer.specs.Spelling.{mark_spelling}
use Rattle.guard_lexer.specs.declared.token.Mark.{Mark}
use Rattle.guard_lexer.specs.declared.token.Mark.TheVariants.{Comma}
use Rattle.guard_lexer.proofs.LongestItems.{longest}
use Rattle.guard_syntax.specs.Lexemes.{Lexeme, lexeme_of}

-- the lexeme that an item is, where it is one
abbrev pub lexeme_in : Item → Option Lexeme
lexeme_in item = option_map (λ k. lexeme_of k item.octets) (kind_of item.kind item.octets)

abbrev pub lexemes_in : List Item → List Lexeme
lexemes_in [] = []
lexemes_in (item ∷ items) = option_to_list (lexeme_in item) ++ lexemes_in items

-- The text is UTF-8 and cut into items without fault, up to its end, and these are their lexemes.
pub record Reads (text : List ℕ) (ls : List Lexeme) : Type 0 where
  pub utf8 : IsUtf8 text
  pub items : List Item
  pub cut : IsCut text items []
  pub lexemes_are : lexemes_in items ≡ ls

longest_here : (i : Item) (rest : List ℕ) → item_at (i.octets ++ rest) ≡ Some (found_item i.kind (length i.octets)) → IsLongest (i.octets ++ rest) i rest
longest_here i rest e =
    let l = longest (i.octets ++ rest) (found_item i.kind (length i.octets)) e in
    subst (λ (left : List ℕ). IsLongest (i.octets ++ rest) i left) (drop_at i.octets rest (length i.octets) refl)
    (subst (λ (os : List ℕ). IsLongest (i.octets ++ rest) (record { kind = i.kind; octets = os }) (drop (length i.octets) (i.octets ++ rest))) (take_at i.octets rest (length i.octets) refl) l)

pub one_more : (i : Item) (rest : List ℕ) (ls : List Lexeme) → IsUtf8 i.octets
    → item_at (i.octets ++ rest) ≡ Some (found_item i.kind (length i.octets)) → item_fault i.kind i.octets rest ≡ None → Reads rest ls
    → Reads (i.octets ++ rest) (option_to_list (lexeme_in i) ++ ls)
one_more i rest ls utf8 found fine r = record {
  utf8 = IsUtf8-append i.octets rest utf8 r.utf8;
  items = i ∷ r.items;
  cut = (rest, longest_here i rest found, fine, r.cut);
  lexemes_are = ap (λ (xs : List Lexeme). option_to_list (lexeme_in i) ++ xs) r.lexemes_are;
}

pub at_end : Reads [] []
at_end = record { utf8 = ([], (refl, refl)); items = []; cut = refl; lexemes_are = refl }

-- ---- the kinds of items, each by an example of it

-- the item at the front; a comma where there is none
abbrev pub first_item : List ℕ → Item
first_item text = elim (item_at text) [ None ↦ record { kind = (found_mark Comma).kind; octets = [] } | Some p ↦ item_of text p ]

abbrev pub like : List ℕ → List ℕ → Item
like example octets = record { kind = (first_item example).kind; octets = octets }

abbrev pub mark_item : Mark → Item
mark_item m = record { kind = (found_mark m).kind; octets = mark_spelling m }
