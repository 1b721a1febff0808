-- What has been read of a text, and what one more item keeps of it.
use Rattle.std.proofs.Common.{◌≡◌, ℕ, ◌+◌, ◌-◌, ◌≤◌, ◌<◌, List, [], ◌∷◌, ◌++◌, length, take, drop, Option, Some, None, refl, sym, ap, subst, ◌∙◌, inl, inr, arith}
use Rattle.std.specs.Prelude.{not, option_map, option_to_list, is_some}
use Rattle.std.proofs.lemmas.List.{length-take, length-drop, drop-drop, append-nil}
use Rattle.std.proofs.lemmas.List.Sums.{count_by-le-length, suffix_len-le-length}
use Rattle.std.proofs.Math.Seq.{take-add}
use Rattle.std.proofs.lemmas.Bool.{false≢true}
use Rattle.guard_model.specs.declared.site.Site.{Site}
use Rattle.guard_lexer.specs.Octets.{is_line_feed}
use Rattle.guard_lexer.specs.Sites.{site_after, site_at}
use Rattle.guard_lexer.specs.Lexing.{Item, OffsetFault, no_item_fault, item_fault, IsCut, kind_of, token_of, tokens_from, FaultAt}
use Rattle.guard_lexer.specs.inside.Reading.{item_at, item_of, IsFaultlessItem, IsFaultAt}
use Rattle.guard_lexer.specs.declared.fault.LexFault.{LexFault}
use Rattle.guard_lexer.specs.declared.item.FoundItem.{FoundItem}
use Rattle.guard_lexer.specs.declared.token.Token.{Token}
use Rattle.guard_lexer.specs.declared.token.TokenKind.{TokenKind}
use Rattle.guard_lexer.proofs.LongestItems.{is_found, IsFound, longest, none_begins}
use Rattle.guard_lexer.proofs.OneCut.{cut_push, tokens_push}

-- ---- sites

-- a line and a column are at most 1 more than the octets before
pub line-fits : (place : ℕ) (before : List ℕ) → (site_after place before).line ≤ 1 + length before
line-fits place before = omega (arith, count_by-le-length is_line_feed before)

pub column-fits : (place : ℕ) (before : List ℕ) → (site_after place before).column ≤ 1 + length before
column-fits place before = omega (arith, suffix_len-le-length (λ octet. not (is_line_feed octet)) before)

-- ---- one item

pub item-from : (left : List ℕ) (p : FoundItem) → item_at left ≡ Some p → item_fault p.kind (take p.len left) (drop p.len left) ≡ None → IsFaultlessItem left p
item-from left p e fine =
    let f : IsFound left (Some p) = subst (IsFound left) e (is_found left) in
    record { some = f.0; within = f.1; longest = longest left p e; fine = fine }

pub no_item : (place : ℕ) (before left : List ℕ) (site : Site) (f : LexFault) → 0 < length left → item_at left ≡ None → site ≡ site_after place before
    → (no_item_fault left).offset ≡ 0 → f ≡ (no_item_fault left).fault site → IsFaultAt place before left f
no_item place before left site f some e at zero_is named =
    let nothing : before ++ take (no_item_fault left).offset left ≡ before = ap (λ (n : ℕ). before ++ take n left) zero_is ∙ append-nil before in
    (no_item_fault left, inl (some, none_begins left e, refl), named ∙ ap (no_item_fault left).fault (at ∙ ap (site_after place) (sym nothing)))

-- what a fault of an item names
pub item_fault_named : (place : ℕ) (before left : List ℕ) (p : FoundItem) (o : Option OffsetFault) (f : LexFault) → item_at left ≡ Some p → item_fault p.kind (take p.len left) (drop p.len left) ≡ o
    → Some f ≡ option_map (λ wrong. wrong.fault (site_after place (before ++ take wrong.offset left))) o → IsFaultAt place before left f
item_fault_named place before left p None f e d named = absurd cc
item_fault_named place before left p (Some wrong) f e d named = (wrong, inr (item_of left p, drop p.len left, longest left p e, d), cc)

-- ---- the front of a text

-- The items up to `at` are read: their tokens, and the site where they end.
pub record IsRead (place : ℕ) (text : List ℕ) (at : ℕ) (site : Site) (tokens : List Token) : Type 0 where
  pub within : at ≤ length text
  pub items : List Item
  pub cut : IsCut text items (drop at text)
  pub tokens_are : tokens ≡ tokens_from place text 0 items
  pub site_is : site ≡ site_at place text at

abbrev none_of : (A : Type 0) → Option A
none_of A = None

offset : (text : List ℕ) (at : ℕ) → at ≤ length text → length text - length (drop at text) ≡ at
offset text at le = omega (arith, length-drop at text)

pub reads_one : (place : ℕ) (text : List ℕ) (at : ℕ) (site after : Site) (tokens more : List Token) (p : FoundItem)
    → IsRead place text at site tokens → IsFaultlessItem (drop at text) p
    → more ≡ tokens ++ option_to_list (token_of place text at (item_of (drop at text) p)) → after ≡ site_at place text (at + p.len)
    → IsRead place text (at + p.len) after more
reads_one place text at site after tokens more p r i more_is after_is =
    let e : drop p.len (drop at text) ≡ drop (at + p.len) text = drop-drop p.len at text in
    let pushed = cut_push text r.items (drop at text) (item_of (drop at text) p) (drop p.len (drop at text)) r.cut i.longest i.fine in
    record {
      within = omega (arith, r.within, i.within, length-drop at text);
      items = r.items ++ item_of (drop at text) p ∷ [];
      cut = subst (IsCut text (r.items ++ item_of (drop at text) p ∷ [])) e pushed;
      tokens_are = more_is ∙ ap (λ (ts : List Token). ts ++ option_to_list (token_of place text at (item_of (drop at text) p))) r.tokens_are
          ∙ sym (tokens_push place text text 0 r.items (drop at text) (item_of (drop at text) p) r.cut
          ∙ ap (λ (n : ℕ). tokens_from place text 0 r.items ++ option_to_list (token_of place text n (item_of (drop at text) p))) (omega (arith, offset text at r.within)));
      site_is = after_is;
    }

pub fault_at : (place : ℕ) (text : List ℕ) (at : ℕ) (site : Site) (tokens : List Token) (f : LexFault) → IsRead place text at site tokens
    → IsFaultAt place (take at text) (drop at text) f → FaultAt place text f
fault_at place text at site tokens f r w = (
  r.items,
  drop at text,
  w.0,
  r.cut,
  w.1,
  w.2 ∙ ap w.0.fault (ap (site_after place) (sym (ap (λ (n : ℕ). take (n + w.0.offset) text) (offset text at r.within) ∙ take-add at w.0.offset text))),
)

pub fault_here : (place : ℕ) (text left : List ℕ) (at : ℕ) (site : Site) (tokens : List Token) (f : LexFault) → IsRead place text at site tokens → left ≡ drop at text
    → ((before : List ℕ) → site ≡ site_after site.text before → IsFaultAt site.text before left f) → FaultAt place text f
fault_here place text left at site tokens f r left_is w =
    let placed : site.text ≡ place = ap (λ (s : Site). s.text) r.site_is in
    let here : site ≡ site_after site.text (take at text) = r.site_is ∙ ap (λ (m : ℕ). site_after m (take at text)) (sym placed) in
    fault_at place text at site tokens f r (subst (λ (l : List ℕ). IsFaultAt place (take at text) l f) left_is (subst (λ (m : ℕ). IsFaultAt m (take at text) left f) placed (w (take at text) here)))

-- the site after an item
pub site_behind_item : (place : ℕ) (text : List ℕ) (at n : ℕ) → site_after place (take at text ++ take n (drop at text)) ≡ site_at place text (at + n)
site_behind_item place text at n = ap (site_after place) (sym (take-add at n text))

pub none_from_is_some : (o : Option OffsetFault) → is_some (none_of OffsetFault) ≡ is_some o → o ≡ None
none_from_is_some None e = refl
none_from_is_some (Some d) e = absurd (false≢true e)

pub site_more : (place : ℕ) (text octets : List ℕ) (at n : ℕ) (site after : Site) → site ≡ site_at place text at
    → ((before : List ℕ) → site ≡ site_after site.text before → after ≡ site_after site.text (before ++ octets)) → octets ≡ take n (drop at text) → after ≡ site_at place text (at + n)
site_more place text octets at n site after site_is more octets_are =
    let placed : site.text ≡ place = ap (λ (s : Site). s.text) site_is in
    let here : site ≡ site_after site.text (take at text) = site_is ∙ ap (λ (m : ℕ). site_after m (take at text)) (sym placed) in
    more (take at text) here ∙ (λ i. site_after (placed i) (take at text ++ octets_are i)) ∙ site_behind_item place text at n

-- ---- tokens

pub some_token : (place : ℕ) (text : List ℕ) (at : ℕ) (site : Site) (p : FoundItem) (kind : TokenKind) → p.len ≤ length (drop at text) → site ≡ site_at place text at
    → kind_of p.kind (take p.len (drop at text)) ≡ Some kind
    → record { kind = kind; start = at; end = at + p.len; site = site } ∷ [] ≡ option_to_list (token_of place text at (item_of (drop at text) p))
some_token place text at site p kind fits site_is kind_is =
    let len : p.len ≡ length (take p.len (drop at text)) = omega (arith, length-take p.len (drop at text)) in
    let made : TokenKind → Token = λ k. record { kind = k; start = at; end = at + length (take p.len (drop at text)); site = site_at place text at } in
    (λ i. record { kind = kind; start = at; end = at + len i; site = site_is i } ∷ []) ∙ sym (ap (λ (o : Option TokenKind). option_to_list (option_map made o)) kind_is)

pub no_token : (place : ℕ) (text : List ℕ) (at : ℕ) (p : FoundItem) → kind_of p.kind (take p.len (drop at text)) ≡ None → [] ≡ option_to_list (token_of place text at (item_of (drop at text) p))
no_token place text at p kind_is =
    let made : TokenKind → Token = λ k. record { kind = k; start = at; end = at + length (take p.len (drop at text)); site = site_at place text at } in
    sym (ap (λ (o : Option TokenKind). option_to_list (option_map made o)) kind_is)
