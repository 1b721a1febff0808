-- Each token is spelled as its kind says.
use Rattle.std.proofs.Common.{◌≡◌, ℕ, ◌+◌, ◌≤◌, ◌^◌, true, leb, not, List, [], ◌∷◌, ◌++◌, length, take, drop, Option, Some, None, refl, sym, ap, subst, ◌∙◌, inl, inr, arith}
use Rattle.std.specs.Prelude.{bytes_eq, find, Contains, slice_range, option_map, option_to_list}
use Rattle.std.specs.List.{AllByRecursion}
use Rattle.std.proofs.lemmas.Bool.{cases_Bool, cond-true, cond-false, both_ways, leb-false}
use Rattle.std.proofs.lemmas.List.{take_at, drop_at, length-append, drop-drop, length-drop}
use Rattle.std.proofs.lemmas.List.Elements.{All-from_recursion}
use Rattle.std.proofs.lemmas.Slice.Eq.{bytes_eq-Decides}
use Rattle.std.proofs.lemmas.Cmp.{nat_list_eq_equiv}
use Rattle.std.proofs.lemmas.Map.Views.{Contains-from_any, list_any-from_Contains}
use Rattle.std.proofs.lemmas.Option.{same_Some, none-some}
use Rattle.guard_model.proofs.Tests.{chosen}
use Rattle.guard_lexer.specs.Octets.{is_capital, begins}
use Rattle.guard_lexer.specs.Items.{IsItem, is_word, number_value}
use Rattle.guard_lexer.specs.Spelling.{reserved_spelling, reserved_words, unsupported_words}
use Rattle.guard_lexer.specs.Words.{reserved_word, is_unsupported, name_kind, kind_given, word_kind}
use Rattle.guard_lexer.specs.Spans.{IsName, IsSpelled, IsSpan, AreSpans}
use Rattle.guard_lexer.specs.Lexing.{Item, number_too_large, item_fault, IsCut, kind_of, token_of, tokens_from}
use Rattle.guard_lexer.specs.declared.item.ItemKind.{ItemKind}
use Rattle.guard_lexer.specs.declared.item.ItemKind.TheVariants as item
use Rattle.guard_lexer.specs.declared.token.Reserved.{Reserved}
use Rattle.guard_lexer.specs.declared.token.Reserved.TheVariants as word
use Rattle.guard_lexer.specs.declared.token.Token.{Token}
use Rattle.guard_lexer.specs.declared.token.TokenKind.{TokenKind}
use Rattle.guard_lexer.specs.declared.token.TokenKind.TheVariants as kind

-- ---- words

reserved-back : (r : Reserved) → reserved_word (reserved_spelling r) ≡ Some r
reserved-back word.Absent = refl
reserved-back r = refl

found-spelled : (octets : List ℕ) (table : List Reserved) (r : Reserved) → find (λ w. bytes_eq octets (reserved_spelling w)) table ≡ Some r → octets ≡ reserved_spelling r
found-spelled octets [] r e = absurd (none-some r e)
found-spelled octets (w ∷ ws) r e =
    elim (chosen (bytes_eq octets (reserved_spelling w)) _ _ (Some r) e) [
      | inl (here, is) ↦ (bytes_eq-Decides octets (reserved_spelling w)).0 here ∙ ap reserved_spelling (same_Some w r is)
      | inr (not_here, later) ↦ found-spelled octets ws r later
    ]

unsupported-is : (octets : List ℕ) → is_unsupported octets ≡ true → Contains unsupported_words octets
unsupported-is octets h = Contains-from_any {eq = bytes_eq} (λ x y e. (bytes_eq-Decides x y).0 e) octets unsupported_words h

name-spelled : (octets : List ℕ) → IsName octets → IsSpelled (name_kind octets) octets
name-spelled octets name =
    elim (cases_Bool (begins is_capital octets)) [
      | inl h ↦ subst (λ (k : TokenKind). IsSpelled k octets) (sym (cond-true (begins is_capital octets) kind.UpperName kind.LowerName h)) (name, h)
      | inr h ↦ subst (λ (k : TokenKind). IsSpelled k octets) (sym (cond-false (begins is_capital octets) kind.UpperName kind.LowerName h)) (name, ap not h)
    ]

word-from : (octets : List ℕ) (o : Option Reserved) → reserved_word octets ≡ o → is_word octets ≡ true → IsSpelled (kind_given o octets) octets
word-from octets (Some r) e w = found-spelled octets reserved_words r e
word-from octets None e w =
    elim (cases_Bool (is_unsupported octets)) [
      | inl h ↦ subst (λ (k : TokenKind). IsSpelled k octets) (sym (cond-true (is_unsupported octets) kind.Unsupported (name_kind octets) h)) (unsupported-is octets h)
      | inr h ↦ subst (λ (k : TokenKind). IsSpelled k octets) (sym (cond-false (is_unsupported octets) kind.Unsupported (name_kind octets) h))
          (name-spelled octets (record {
            word = w;
            unreserved = λ r same. none-some r (sym e ∙ ap reserved_word same ∙ reserved-back r);
            supported = λ has. both_ways _ h (list_any-from_Contains {eq = bytes_eq} nat_list_eq_equiv octets unsupported_words has);
          }))
    ]

word-spelled : (octets : List ℕ) → is_word octets ≡ true → IsSpelled (word_kind octets) octets
word-spelled octets w = word-from octets (reserved_word octets) refl w

-- ---- all kinds

spelled : (s : ItemKind) (octets after : List ℕ) (k : TokenKind) → IsItem s octets after → item_fault s octets after ≡ None → kind_of s octets ≡ Some k → IsSpelled k octets
spelled item.Word octets after k is fine e = subst (λ (x : TokenKind). IsSpelled x octets) (same_Some (word_kind octets) k e) (word-spelled octets is)
spelled item.Number octets after k is fine e =
    subst (λ (x : TokenKind). IsSpelled x octets) (same_Some kind.Number k e) (
      is,
      elim (cases_Bool (leb (2 ^ 128) (number_value octets))) [
        | inl large ↦ absurd (none-some number_too_large (sym fine ∙ cond-true (leb (2 ^ 128) (number_value octets)) _ _ large))
        | inr small ↦ leb-false _ _ small
      ],
    )
spelled item.CharacterString octets after k is fine e = subst (λ (x : TokenKind). IsSpelled x octets) (same_Some kind.CharacterString k e) is.0
spelled item.BitString octets after k is fine e = subst (λ (x : TokenKind). IsSpelled x octets) (same_Some kind.BitString k e) is
spelled item.HexadecimalString octets after k is fine e = subst (λ (x : TokenKind). IsSpelled x octets) (same_Some kind.HexadecimalString k e) is
spelled (item.Mark m) octets after k is fine e = subst (λ (x : TokenKind). IsSpelled x octets) (same_Some (kind.Mark m) k e) is
spelled s octets after k is fine e = absurd (none-some k e)

-- ---- spans

put_before : (whole : List ℕ) (o : Option Token) (ts : List Token) → ((t : Token) → o ≡ Some t → IsSpan whole t) → AllByRecursion (IsSpan whole) ts → AllByRecursion (IsSpan whole) (option_to_list o ++ ts)
put_before whole None ts one others = others
put_before whole (Some t) ts one others = (one t refl, others)

mapped : {A B : Type 0} (f : A → B) (o : Option A) (y : B) → option_map f o ≡ Some y → (x : A) × (o ≡ Some x) × (f x ≡ y)
mapped f None y e = absurd (none-some y e)
mapped f (Some x) y e = (x, refl, same_Some (f x) y e)

spans_from : (place : ℕ) (whole text : List ℕ) (start : ℕ) (items : List Item) (left : List ℕ) → drop start whole ≡ text → start ≤ length whole → IsCut text items left
    → AllByRecursion (IsSpan whole) (tokens_from place whole start items)
spans_from place whole text start [] left here within cut = tt
spans_from place whole text start (i ∷ is) left here within cut =
    let n = length i.octets in
    let fits : start + n ≤ length whole = omega (arith, within, length-drop start whole, ap length here, ap length cut.1.split, length-append i.octets cut.0) in
    let next : drop (start + n) whole ≡ cut.0 = sym (drop-drop n start whole) ∙ ap (drop n) (here ∙ cut.1.split) ∙ drop_at i.octets cut.0 n refl in
    let part : slice_range whole start (start + n) ≡ i.octets = ap (λ (m : ℕ). take m (drop start whole)) (omega arith) ∙ ap (take n) (here ∙ cut.1.split) ∙ take_at i.octets cut.0 n refl in
    put_before whole (token_of place whole start i) (tokens_from place whole (start + n) is)
    (λ t e.
    let m = mapped _ (kind_of i.kind i.octets) t e in
    subst (IsSpan whole) m.2 (record {
      order = omega arith;
      within = fits;
      spelled = subst (IsSpelled m.0) (sym part) (spelled i.kind i.octets cut.0 m.0 cut.1.is_item cut.2 m.1);
    }))
    (spans_from place whole cut.0 (start + n) is left next fits cut.3)

pub are_spans : (place : ℕ) (text : List ℕ) (items : List Item) → IsCut text items [] → AreSpans text (tokens_from place text 0 items)
are_spans place text items cut = All-from_recursion (IsSpan text) (tokens_from place text 0 items) (spans_from place text text 0 items [] refl (omega arith) cut)
