-- What reading finds at the front is the longest item there.
use Rattle.std.proofs.Common.{◌≡◌, ℕ, suc, ◌-◌, ◌≤◌, ◌<◌, true, false, eqb, ◌&&◌, ◌||◌, not, List, [], ◌∷◌, ◌++◌, length, take, drop, Option, Some, None, refl, sym, ap, subst, ◌∙◌, inl, inr, ◌⊎◌, arith}
use Rattle.std.specs.Prelude.{option_map}
use Rattle.std.specs.List.{list_all, prefix_len}
use Rattle.std.proofs.lemmas.Bool.{and_parts, and_from, or_cases, or_left, or_right, cases_Bool, false≢true, cond_both, eqb-true, cases_lt, not-true}
use Rattle.std.proofs.lemmas.List.{take-append-drop, take_at, drop_at, length-take, length-append}
use Rattle.std.proofs.lemmas.List.Sums.{prefix_len-le-length}
use Rattle.std.proofs.lemmas.Option.{same_Some, none-some}
use Rattle.guard_lexer.specs.Octets.{is_letter, is_digit, is_hyphen, is_quote, is_apostrophe, is_slash, is_asterisk, is_of_bits, is_of_hexadecimal, is_white_space, begins}
use Rattle.guard_lexer.specs.Items.{is_one_white_space, is_word, are_of_word, is_number, is_line_comment, is_line_comment_body, opens, is_block_rest, is_block_comment, is_string_rest, is_character_string, is_digits_rest, is_bit_string, is_hexadecimal_string, IsItem}
use Rattle.guard_lexer.specs.Spelling.{mark_spelling}
use Rattle.guard_lexer.specs.inside.Reading.{word_len, number_len, comment_body_len, mark_at, behind_block_comment, behind_string, behind_bits, behind_hexadecimal, found_item, found_mark, found_before, found_digit_string, item_at, item_of}
use Rattle.guard_lexer.specs.Lexing.{Item, IsLongest, BeginsNone}
use Rattle.guard_lexer.specs.declared.item.FoundItem.{FoundItem}
use Rattle.guard_lexer.specs.declared.item.ItemKind.{ItemKind}
use Rattle.guard_lexer.specs.declared.item.ItemKind.TheVariants as item
use Rattle.guard_lexer.specs.declared.token.Mark.{Mark}
use Rattle.guard_lexer.specs.declared.token.Mark.TheVariants as mark
use Rattle.guard_lexer.proofs.OctetTests.{letter-not_white, digit-not_white, digit-not_letter, hyphen-is}
use Rattle.guard_lexer.proofs.Lengths.{word-longest, word-is, word-fits, digits-longest, digits-are, body-longest, body-is, body-fits}
use Rattle.guard_lexer.proofs.CommentsAndStrings.{block_comment-append, block_comment-Some, string-append, string-Some, digits-append, digits-Some, no_bits}
use Rattle.guard_lexer.proofs.LongestMarks.{mark_len, mark-nonempty, same_mark, mark-found, mark-stands}

-- ---- each first octet has its way

item_at-white : (c : ℕ) (cs : List ℕ) → is_white_space c ≡ true → item_at (c ∷ cs) ≡ Some (found_item item.WhiteSpace 1)
item_at-white c cs h = rw h refl

item_at-letter : (c : ℕ) (cs : List ℕ) → is_letter c ≡ true → item_at (c ∷ cs) ≡ Some (found_item item.Word (suc (word_len cs)))
item_at-letter c cs h = rw (letter-not_white c h, h) refl

item_at-digit : (c : ℕ) (cs : List ℕ) → is_digit c ≡ true → item_at (c ∷ cs) ≡ Some (found_item item.Number (number_len c cs))
item_at-digit c cs h = rw (digit-not_white c h, digit-not_letter c h, h) refl

-- What reading finds where an item begins: a longer item, or this one.
abbrev pub Covers : ItemKind → List ℕ → Option FoundItem → Type 0
Covers s octets found = (t : ItemKind) × (n : ℕ) × (found ≡ Some (found_item t n)) × ((length octets < n) ⊎ ((length octets ≡ n) × (s ≡ t)))

longer_or_same : (a b : ℕ) (s : ItemKind) → a ≤ b → (a < b) ⊎ ((a ≡ b) × (s ≡ s))
longer_or_same a b s le = elim (cases_lt a b) [ inl lt ↦ inl lt | inr ge ↦ inr (omega arith, refl) ]

covers-white : (octets after : List ℕ) → is_one_white_space octets ≡ true → Covers item.WhiteSpace octets (item_at (octets ++ after))
covers-white [] after h = absurd (false≢true h)
covers-white (c ∷ []) after h = (item.WhiteSpace, 1, item_at-white c after (and_parts (is_white_space c) true h).0, inr (refl, refl))
covers-white (c ∷ d ∷ cs) after h = absurd (omega (arith, eqb-true _ _ (and_parts (is_white_space c) (eqb (length (c ∷ d ∷ cs)) 1) h).1))

covers-word : (octets after : List ℕ) → is_word octets ≡ true → Covers item.Word octets (item_at (octets ++ after))
covers-word [] after h = absurd (false≢true h)
covers-word (c ∷ cs) after h =
    let p = and_parts (is_letter c) (are_of_word cs) h in
    (item.Word, suc (word_len (cs ++ after)), item_at-letter c (cs ++ after) p.0, longer_or_same _ _ item.Word (omega (arith, word-longest cs after p.1)))

number-longest : (c : ℕ) (cs after : List ℕ) → list_all is_digit cs ≡ true → (not (eqb c 48) || eqb (length cs) 0) ≡ true → suc (length cs) ≤ number_len c (cs ++ after)
number-longest c cs after digits first =
    cond_both (eqb c 48) 1 (suc (prefix_len is_digit (cs ++ after))) (λ n. suc (length cs) ≤ n)
    (λ zero_first.
    elim (or_cases (not (eqb c 48)) (eqb (length cs) 0) first) [
      | inl other ↦ absurd (false≢true (sym (ap not zero_first) ∙ other))
      | inr alone ↦ omega (arith, eqb-true _ _ alone)
    ])
    (λ _. omega (arith, digits-longest cs after digits))

covers-number : (octets after : List ℕ) → is_number octets ≡ true → Covers item.Number octets (item_at (octets ++ after))
covers-number [] after h = absurd (false≢true h)
covers-number (c ∷ cs) after h =
    let p = and_parts (is_digit c && list_all is_digit cs) (not (eqb c 48) || eqb (length cs) 0) h in
    let q = and_parts (is_digit c) (list_all is_digit cs) p.0 in
    (item.Number, number_len c (cs ++ after), item_at-digit c (cs ++ after) q.0, longer_or_same _ _ item.Number (number-longest c cs after q.1 p.1))

covers-line_comment : (octets after : List ℕ) → is_line_comment octets ≡ true → Covers item.LineComment octets (item_at (octets ++ after))
covers-line_comment [] after h = absurd (false≢true h)
covers-line_comment (c ∷ []) after h = absurd (false≢true h)
covers-line_comment (c ∷ d ∷ body) after h =
    let p = and_parts (is_hyphen c && is_hyphen d) (is_line_comment_body body) h in
    let q = and_parts (is_hyphen c) (is_hyphen d) p.0 in
    let n : ℕ = suc (suc (comment_body_len (body ++ after))) in
    let e : item_at (c ∷ d ∷ body ++ after) ≡ Some (found_item item.LineComment n) =
    subst (λ (x : ℕ). item_at (x ∷ d ∷ body ++ after) ≡ Some (found_item item.LineComment n)) (sym (hyphen-is c q.0))
    (subst (λ (x : ℕ). item_at (45 ∷ x ∷ body ++ after) ≡ Some (found_item item.LineComment n)) (sym (hyphen-is d q.1)) refl) in
    (item.LineComment, n, e, longer_or_same _ _ item.LineComment (omega (arith, body-longest body after p.1)))

minus : (after : List ℕ) → (item_at (45 ∷ after) ≡ option_map found_mark (mark_at (45 ∷ after))) ⊎ Covers (item.Mark mark.Minus) (45 ∷ []) (item_at (45 ∷ after))
minus [] = inl refl
minus (c ∷ cs) =
    elim (cases_Bool (is_hyphen c)) [
      | inl h ↦ inr (item.LineComment, suc (suc (comment_body_len cs)), rw h refl, inl (omega arith))
      | inr h ↦ inl (rw h refl)
    ]

-- a mark is looked for in the table, but for a hyphen where a comment begins
ByTable : Mark → List ℕ → Type 0
ByTable m after =
    (item_at (mark_spelling m ++ after) ≡ option_map found_mark (mark_at (mark_spelling m ++ after)))
    ⊎ Covers (item.Mark m) (mark_spelling m) (item_at (mark_spelling m ++ after))

by_table : (m : Mark) (after : List ℕ) → ByTable m after
unfolding ByTable
by_table mark.Minus after = minus after
by_table m after = inl refl

covers-mark : (m : Mark) (after : List ℕ) → Covers (item.Mark m) (mark_spelling m) (item_at (mark_spelling m ++ after))
unfolding ByTable
covers-mark m after =
    elim (by_table m after) [
      | inl e ↦
          let f = mark-found m after in (
            item.Mark f.0,
            mark_len f.0,
            e ∙ ap (option_map found_mark) f.1,
            elim (cases_lt (mark_len m) (mark_len f.0)) [
              | inl lt ↦ inl lt
              | inr ge ↦
                  let same : mark_len f.0 ≡ mark_len m = omega (arith, f.2) in
                  let spelled : mark_spelling f.0 ≡ mark_spelling m = mark-stands (mark_spelling m ++ after) f.0 f.1 ∙ take_at (mark_spelling m) after (mark_len f.0) (sym same) in
                  inr (sym same, ap item.Mark (same_mark m f.0 (sym spelled)))
            ],
          )
      | inr c ↦ c
    ]

-- what is read up to what is left has the length of what comes before
before-len : (octets left : List ℕ) → length octets ≡ length (octets ++ left) - length left
before-len octets left = omega (arith, length-append octets left)

covers-block_comment : (octets after : List ℕ) → is_block_comment octets ≡ true → Covers item.BlockComment octets (item_at (octets ++ after))
covers-block_comment [] after h = absurd (false≢true h)
covers-block_comment (a ∷ []) after h = absurd (false≢true h)
covers-block_comment (a ∷ b ∷ os) after h =
    let p = and_parts (opens a b) (is_block_rest 0 os) h in
    let q = and_parts (is_slash a) (is_asterisk b) p.0 in
    let made : List ℕ → Option (List ℕ) → Option FoundItem = λ text o. option_map (found_before item.BlockComment text) o in
    let e : item_at (a ∷ b ∷ os ++ after) ≡ made (a ∷ b ∷ os ++ after) (behind_block_comment 0 (os ++ after)) =
    subst (λ (x : ℕ). item_at (x ∷ b ∷ os ++ after) ≡ made (x ∷ b ∷ os ++ after) (behind_block_comment 0 (os ++ after))) (sym (eqb-true a 47 q.0))
    (subst (λ (x : ℕ). item_at (47 ∷ x ∷ os ++ after) ≡ made (47 ∷ x ∷ os ++ after) (behind_block_comment 0 (os ++ after))) (sym (eqb-true b 42 q.1)) refl) in
    (item.BlockComment, length (a ∷ b ∷ os ++ after) - length after, e ∙ ap (made (a ∷ b ∷ os ++ after)) (block_comment-append 0 os after p.1), inr (before-len (a ∷ b ∷ os) after, refl))

covers-string : (octets after : List ℕ) → is_character_string octets ≡ true → not (begins is_quote after) ≡ true → Covers item.CharacterString octets (item_at (octets ++ after))
covers-string [] after h none = absurd (false≢true h)
covers-string (a ∷ os) after h none =
    let p = and_parts (is_quote a) (is_string_rest os) h in
    let made : List ℕ → Option (List ℕ) → Option FoundItem = λ text o. option_map (found_before item.CharacterString text) o in
    let e : item_at (a ∷ os ++ after) ≡ made (a ∷ os ++ after) (behind_string (os ++ after)) =
    subst (λ (x : ℕ). item_at (x ∷ os ++ after) ≡ made (x ∷ os ++ after) (behind_string (os ++ after))) (sym (eqb-true a 34 p.0)) refl in
    (item.CharacterString, length (a ∷ os ++ after) - length after, e ∙ ap (made (a ∷ os ++ after)) (string-append os after p.1 (not-true _ none)), inr (before-len (a ∷ os) after, refl))

item_at-apostrophe : (c : ℕ) (cs : List ℕ) → is_apostrophe c ≡ true → item_at (c ∷ cs) ≡ found_digit_string (c ∷ cs) (behind_bits cs) (behind_hexadecimal cs)
item_at-apostrophe c cs h =
    subst (λ (x : ℕ). item_at (x ∷ cs) ≡ found_digit_string (x ∷ cs) (behind_bits cs) (behind_hexadecimal cs)) (sym (eqb-true c 39 h)) refl

covers-bits : (octets after : List ℕ) → is_bit_string octets ≡ true → Covers item.BitString octets (item_at (octets ++ after))
covers-bits [] after h = absurd (false≢true h)
covers-bits (a ∷ os) after h =
    let p = and_parts (is_apostrophe a) (is_digits_rest is_of_bits 66 os) h in (
      item.BitString,
      length (a ∷ os ++ after) - length after,
      item_at-apostrophe a (os ++ after) p.0 ∙ ap (λ (o : Option (List ℕ)). found_digit_string (a ∷ os ++ after) o (behind_hexadecimal (os ++ after))) (digits-append is_of_bits 66 os after p.1),
      inr (before-len (a ∷ os) after, refl),
    )

covers-hexadecimal : (octets after : List ℕ) → is_hexadecimal_string octets ≡ true → Covers item.HexadecimalString octets (item_at (octets ++ after))
covers-hexadecimal [] after h = absurd (false≢true h)
covers-hexadecimal (a ∷ os) after h =
    let p = and_parts (is_apostrophe a) (is_digits_rest is_of_hexadecimal 72 os) h in (
      item.HexadecimalString,
      length (a ∷ os ++ after) - length after,
      item_at-apostrophe a (os ++ after) p.0 ∙ ap (λ (o : Option (List ℕ)). found_digit_string (a ∷ os ++ after) o (behind_hexadecimal (os ++ after))) (no_bits os after p.1)
          ∙ ap (λ (o : Option (List ℕ)). found_digit_string (a ∷ os ++ after) None o) (digits-append is_of_hexadecimal 72 os after p.1),
      inr (before-len (a ∷ os) after, refl),
    )

pub covers : (s : ItemKind) (octets after : List ℕ) → IsItem s octets after → Covers s octets (item_at (octets ++ after))
covers item.WhiteSpace octets after h = covers-white octets after h
covers item.LineComment octets after h = covers-line_comment octets after h
covers item.BlockComment octets after h = covers-block_comment octets after h
covers item.Word octets after h = covers-word octets after h
covers item.Number octets after h = covers-number octets after h
covers item.CharacterString octets after h = covers-string octets after h.0 h.1
covers item.BitString octets after h = covers-bits octets after h
covers item.HexadecimalString octets after h = covers-hexadecimal octets after h
covers (item.Mark m) octets after h = subst (λ (o : List ℕ). Covers (item.Mark m) o (item_at (o ++ after))) (sym h) (covers-mark m after)

-- ---- what is found is an item

-- what is found has octets, all of them of the text, and is an item
abbrev pub IsFound : List ℕ → Option FoundItem → Type 0
IsFound text None = Unit {0}
IsFound text (Some p) = (0 < p.len) × (p.len ≤ length text) × IsItem p.kind (take p.len text) (drop p.len text)

number-is_found : (c : ℕ) (cs : List ℕ) → is_digit c ≡ true → IsFound (c ∷ cs) (Some (found_item item.Number (number_len c cs)))
number-is_found c cs h =
    cond_both (eqb c 48) 1 (suc (prefix_len is_digit cs)) (λ n. IsFound (c ∷ cs) (Some (found_item item.Number n)))
    (λ _. (omega arith, omega arith, and_from _ _ (and_from _ _ h refl) (or_right (not (eqb c 48)) true refl)))
    (λ other. (omega arith, omega (arith, prefix_len-le-length is_digit cs), and_from _ _ (and_from _ _ h (digits-are cs)) (or_left _ _ (ap not other))))

line_comment-is_found : (c : ℕ) (cs : List ℕ) → (is_hyphen c && begins is_hyphen cs) ≡ true → IsFound (c ∷ cs) (Some (found_item item.LineComment (suc (suc (comment_body_len (drop 1 cs))))))
line_comment-is_found c [] h = absurd (false≢true (and_parts (is_hyphen c) false h).1)
line_comment-is_found c (d ∷ cs) h = (omega arith, omega (arith, body-fits cs), and_from _ _ h (body-is cs))

mark-is_found : (text : List ℕ) (o : Option Mark) → mark_at text ≡ o → IsFound text (option_map found_mark o)
mark-is_found text None e = tt
mark-is_found text (Some m) e =
    let s = mark-stands text m e in
    (mark-nonempty m, omega (arith, ap length s, length-take (mark_len m) text), sym s)

before-is_found : (s : ItemKind) (text octets left : List ℕ) → text ≡ octets ++ left → 0 < length octets → IsItem s octets left → IsFound text (Some (found_before s text left))
before-is_found s text octets left split some is =
    let len : length octets ≡ length text - length left = omega (arith, ap length split, length-append octets left) in
    let front_is : octets ≡ take (length text - length left) text = sym (take_at octets left (length text - length left) len) ∙ ap (take (length text - length left)) (sym split) in
    let left_is : left ≡ drop (length text - length left) text = sym (drop_at octets left (length text - length left) len) ∙ ap (drop (length text - length left)) (sym split) in
    (omega arith, omega arith, subst (λ (o : List ℕ). IsItem s o (drop (length text - length left) text)) front_is (subst (λ (l : List ℕ). IsItem s octets l) left_is is))

block_comment-is_found : (c : ℕ) (cs : List ℕ) (o : Option (List ℕ)) → (is_slash c && begins is_asterisk cs) ≡ true → behind_block_comment 0 (drop 1 cs) ≡ o → IsFound (c ∷ cs) (option_map (found_before item.BlockComment (c ∷ cs)) o)
block_comment-is_found c cs None h e = tt
block_comment-is_found c [] (Some left) h e = absurd (false≢true (and_parts (is_slash c) false h).1)
block_comment-is_found c (d ∷ cs) (Some left) h e =
    let r = block_comment-Some 0 cs left e in
    before-is_found item.BlockComment (c ∷ d ∷ cs) (c ∷ d ∷ r.0) left (ap (λ (x : List ℕ). c ∷ d ∷ x) r.1) (omega arith) (and_from _ _ h r.2)

string-is_found : (c : ℕ) (cs : List ℕ) (o : Option (List ℕ)) → is_quote c ≡ true → behind_string cs ≡ o → IsFound (c ∷ cs) (option_map (found_before item.CharacterString (c ∷ cs)) o)
string-is_found c cs None h e = tt
string-is_found c cs (Some left) h e =
    let r = string-Some cs left e in
    before-is_found item.CharacterString (c ∷ cs) (c ∷ r.0) left (ap (λ (x : List ℕ). c ∷ x) r.1) (omega arith) (and_from _ _ h r.2, ap not r.3)

digit_string-is_found : (c : ℕ) (cs : List ℕ) (o p : Option (List ℕ)) → is_apostrophe c ≡ true → behind_bits cs ≡ o → behind_hexadecimal cs ≡ p → IsFound (c ∷ cs) (found_digit_string (c ∷ cs) o p)
digit_string-is_found c cs (Some left) p h e f =
    let r = digits-Some is_of_bits 66 cs left e in
    before-is_found item.BitString (c ∷ cs) (c ∷ r.0) left (ap (λ (x : List ℕ). c ∷ x) r.1) (omega arith) (and_from _ _ h r.2)
digit_string-is_found c cs None None h e f = tt
digit_string-is_found c cs None (Some left) h e f =
    let r = digits-Some is_of_hexadecimal 72 cs left f in
    before-is_found item.HexadecimalString (c ∷ cs) (c ∷ r.0) left (ap (λ (x : List ℕ). c ∷ x) r.1) (omega arith) (and_from _ _ h r.2)

pub is_found : (text : List ℕ) → IsFound text (item_at text)
is_found [] = tt
is_found (c ∷ cs) =
    cond_both (is_white_space c) _ _ (IsFound (c ∷ cs)) (λ h. (omega arith, omega arith, and_from _ _ h refl))
    (λ _. cond_both (is_letter c) _ _ (IsFound (c ∷ cs)) (λ h. (omega arith, omega (arith, word-fits cs), and_from _ _ h (word-is cs)))
    (λ _. cond_both (is_digit c) _ _ (IsFound (c ∷ cs)) (λ h. number-is_found c cs h)
    (λ _. cond_both (is_hyphen c && begins is_hyphen cs) _ _ (IsFound (c ∷ cs)) (λ h. line_comment-is_found c cs h)
    (λ _. cond_both (is_quote c) _ _ (IsFound (c ∷ cs)) (λ h. string-is_found c cs (behind_string cs) h refl)
    (λ _. cond_both (is_apostrophe c) _ _ (IsFound (c ∷ cs)) (λ h. digit_string-is_found c cs (behind_bits cs) (behind_hexadecimal cs) h refl refl)
    (λ _. cond_both (is_slash c && begins is_asterisk cs) _ _ (IsFound (c ∷ cs)) (λ h. block_comment-is_found c cs (behind_block_comment 0 (drop 1 cs)) h refl)
    (λ _. mark-is_found (c ∷ cs) (mark_at (c ∷ cs)) refl)))))))

-- ---- the longest item is the one that is found

pub longest : (text : List ℕ) (p : FoundItem) → item_at text ≡ Some p → IsLongest text (item_of text p) (drop p.len text)
longest text p e =
    let f : IsFound text (Some p) = subst (IsFound text) e (is_found text) in
    record {
      split = sym (take-append-drop p.len text);
      is_item = f.2;
      longest = λ other after split is.
          let c = covers other.kind other.octets after is in
          let same : p ≡ found_item c.0 c.1 = same_Some p (found_item c.0 c.1) (sym e ∙ ap item_at split ∙ c.2) in
          let len : p.len ≡ c.1 = ap (λ (q : FoundItem). q.len) same in
          elim c.3 [
            | inl lt ↦ omega (arith, length-take p.len text, f.1)
            | inr eq ↦ omega (arith, length-take p.len text, f.1, eq.0)
          ];
    }

pub none_begins : (text : List ℕ) → item_at text ≡ None → BeginsNone text
none_begins text e item after split is = let c = covers item.kind item.octets after is in absurd (none-some _ (sym e ∙ ap item_at split ∙ c.2))

pub longest_found : (text : List ℕ) (item : Item) (left : List ℕ) → IsLongest text item left → item_at text ≡ Some (found_item item.kind (length item.octets))
longest_found text item left l =
    let c = covers item.kind item.octets left l.is_item in
    let e : item_at text ≡ Some (found_item c.0 c.1) = ap item_at l.split ∙ c.2 in
    let f : IsFound text (Some (found_item c.0 c.1)) = subst (IsFound text) e (is_found text) in
    let le : length (take c.1 text) ≤ length item.octets = l.longest (item_of text (found_item c.0 c.1)) (drop c.1 text) (sym (take-append-drop c.1 text)) f.2 in
    elim c.3 [
      | inl lt ↦ absurd (omega (arith, length-take c.1 text, f.1))
      | inr eq ↦ e ∙ (λ i. Some (found_item (sym eq.1 i) (sym eq.0 i)))
    ]

none-from : (text : List ℕ) (o : Option FoundItem) → item_at text ≡ o → BeginsNone text → o ≡ None
none-from text None e none = refl
none-from text (Some p) e none = let l = longest text p e in absurd (none (item_of text p) (drop p.len text) l.split l.is_item)

pub none_found : (text : List ℕ) → BeginsNone text → item_at text ≡ None
none_found text none = none-from text (item_at text) refl none

item-is : (text : List ℕ) (i j : Item) (after left : List ℕ) → text ≡ i.octets ++ after → text ≡ j.octets ++ left → i.kind ≡ j.kind → length i.octets ≡ length j.octets → (i ≡ j) × (after ≡ left)
item-is text i j after left e f kinds lengths =
    let octets : i.octets ≡ j.octets = sym (take_at i.octets after (length i.octets) refl) ∙ ap (take (length i.octets)) (sym e ∙ f) ∙ take_at j.octets left (length i.octets) (sym lengths) in
    ((λ k. record { kind = kinds k; octets = octets k }), sym (drop_at i.octets after (length i.octets) refl) ∙ ap (drop (length i.octets)) (sym e ∙ f) ∙ drop_at j.octets left (length i.octets) (sym lengths))

-- at most one item is the longest
pub one_longest : (text : List ℕ) (i j : Item) (after left : List ℕ) → IsLongest text i after → IsLongest text j left → (i ≡ j) × (after ≡ left)
one_longest text i j after left a b =
    let same : found_item i.kind (length i.octets) ≡ found_item j.kind (length j.octets) = same_Some _ _ (sym (longest_found text i after a) ∙ longest_found text j left b) in
    item-is text i j after left a.split b.split (ap (λ (q : FoundItem). q.kind) same) (ap (λ (q : FoundItem). q.len) same)
