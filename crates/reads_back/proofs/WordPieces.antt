-- Words and numbers: they end where what comes after them is apart.
use Rattle.std.proofs.Common.{◌≡◌, ℕ, suc, ◌+◌, ◌^◌, ◌<◌, Bool, true, false, ◌&&◌, ◌||◌, ◌==◌, not, eqb, List, [], ◌∷◌, ◌++◌, length, Some, None, refl, sym, ap, subst, ◌∙◌, inl, inr, arith, nat_le}
use Rattle.std.specs.List.{list_all, prefix_len}
use Rattle.std.proofs.lemmas.Bool.{and_parts, and_from, or_cases, or_left, or_right, false≢true, cond-true, cond-false, cond_both, eqb-true}
use Rattle.std.proofs.lemmas.Bool.Decides.{nat_tests}
use Rattle.guard_lexer.specs.Octets.{is_letter, is_digit, is_letter_or_digit, is_hyphen, is_quote, is_white_space, begins}
use Rattle.guard_lexer.specs.Items.{is_word, is_of_word, are_of_word, is_number, number_value}
use Rattle.guard_lexer.specs.Lexing.{Item, is_lone_hyphen, item_fault, number_too_large, bad_character}
use Rattle.guard_lexer.specs.inside.Reading.{item_at, found_item, word_len, number_len}
use Rattle.guard_lexer.specs.declared.token.TokenKind.{TokenKind}
use Rattle.guard_lexer.specs.Words.{word_kind}
use Rattle.guard_lexer.proofs.Lengths.{begins-append}
use Rattle.guard_lexer.proofs.OctetTests.{letter-not_white, digit-not_white, digit-not_letter}
use Rattle.guard_syntax.specs.Lexemes.{Lexeme, lexeme_of, number}
use Rattle.guard_lexer.proofs.WordTexts.{word_is_text}
use Rattle.reads_back.proofs.Ascii.{is_ascii, are_ascii, ascii_text}
use Rattle.reads_back.proofs.Cuts.{Reads, one_more, like}

-- ---- what comes after

-- white space, a comma, a closing brace, a colon
abbrev pub sets_apart : ℕ → Bool
sets_apart octet = is_white_space octet || octet == 44 || octet == 125 || octet == 58

abbrev pub is_apart : List ℕ → Bool
is_apart [] = true
is_apart (octet ∷ octets) = sets_apart octet

apart-no_word : (c : ℕ) (cs : List ℕ) → sets_apart c ≡ true → is_of_word c cs ≡ false
apart-no_word c cs h =
    let letter : is_letter_or_digit c ≡ false = grind (arith, nat_tests) in
    let hyphen : is_hyphen c ≡ false = grind (arith, nat_tests) in
    rw (letter, hyphen) refl

apart-no_digit : (c : ℕ) → sets_apart c ≡ true → is_digit c ≡ false
apart-no_digit c h = grind (arith, nat_tests)

apart-no_hyphen : (c : ℕ) → sets_apart c ≡ true → is_hyphen c ≡ false
apart-no_hyphen c h = grind (arith, nat_tests)

pub no_quote : (rest : List ℕ) → is_apart rest ≡ true → begins is_quote rest ≡ false
no_quote [] h = refl
no_quote (c ∷ cs) h = grind (arith, nat_tests)

no_digit : (rest : List ℕ) → is_apart rest ≡ true → begins is_digit rest ≡ false
no_digit [] h = refl
no_digit (c ∷ cs) h = apart-no_digit c h

no_lone_hyphen : (rest : List ℕ) → is_apart rest ≡ true → is_lone_hyphen rest ≡ false
no_lone_hyphen [] h = refl
no_lone_hyphen (c ∷ cs) h = rw (apart-no_hyphen c h) refl

-- ---- words

of_word-append : (c : ℕ) (a b : List ℕ) → is_of_word c a ≡ true → is_of_word c (a ++ b) ≡ true
of_word-append c a b h =
    elim (or_cases (is_letter_or_digit c) (is_hyphen c && begins is_letter_or_digit a) h) [
      | inl alone ↦ or_left _ _ alone
      | inr both ↦ let p = and_parts (is_hyphen c) (begins is_letter_or_digit a) both in or_right _ _ (and_from _ _ p.0 (begins-append is_letter_or_digit a b p.1))
    ]

no_more_of_word : (rest : List ℕ) → is_apart rest ≡ true → word_len rest ≡ 0
no_more_of_word [] h = refl
no_more_of_word (c ∷ cs) h = cond-false (is_of_word c cs) (suc (word_len cs)) 0 (apart-no_word c cs h)

word_ends : (cs rest : List ℕ) → are_of_word cs ≡ true → is_apart rest ≡ true → word_len (cs ++ rest) ≡ length cs
word_ends [] rest h apart = no_more_of_word rest apart
word_ends (c ∷ cs) rest h apart =
    let p = and_parts (is_of_word c cs) (are_of_word cs) h in
    cond-true (is_of_word c (cs ++ rest)) (suc (word_len (cs ++ rest))) 0 (of_word-append c cs rest p.0) ∙ ap (λ (n : ℕ). suc n) (word_ends cs rest p.1 apart)

abbrev word_item : List ℕ → Item
word_item octets = like (97 ∷ []) octets

pub word : (name rest : List ℕ) (kind : TokenKind) (ls : List Lexeme) → is_word name ≡ true → word_kind name ≡ kind → is_apart rest ≡ true → Reads rest ls → Reads (name ++ rest) (lexeme_of kind name ∷ ls)
word [] rest kind ls h e apart r = absurd (false≢true h)
word (c ∷ cs) rest kind ls h e apart r =
    let p = and_parts (is_letter c) (are_of_word cs) h in
    let found : item_at (c ∷ cs ++ rest) ≡ Some (found_item (word_item (c ∷ cs)).kind (suc (length cs))) =
    rw (letter-not_white c p.0, p.0) (ap (λ (n : ℕ). Some (found_item (word_item (c ∷ cs)).kind (suc n))) (word_ends cs rest p.1 apart)) in
    let fine : item_fault (word_item (c ∷ cs)).kind (c ∷ cs) rest ≡ None = rw (no_lone_hyphen rest apart) refl in
    subst (λ (k : TokenKind). Reads (c ∷ cs ++ rest) (lexeme_of k (c ∷ cs) ∷ ls)) e
    (one_more (word_item (c ∷ cs)) rest ls (word_is_text (c ∷ cs) h) found fine r)

-- ---- numbers

digits_end : (ds rest : List ℕ) → list_all is_digit ds ≡ true → is_apart rest ≡ true → prefix_len is_digit (ds ++ rest) ≡ length ds
digits_end [] [] h apart = refl
digits_end [] (c ∷ cs) h apart = cond-false (is_digit c) (1 + prefix_len is_digit cs) 0 (apart-no_digit c apart)
digits_end (d ∷ ds) rest h apart =
    let p = and_parts (is_digit d) (list_all is_digit ds) h in
    let more : prefix_len is_digit (ds ++ rest) ≡ length ds = digits_end ds rest p.1 apart in
    cond-true (is_digit d) (1 + prefix_len is_digit (ds ++ rest)) 0 p.0 ∙ omega (arith, more)

number_ends : (d : ℕ) (ds rest : List ℕ) → is_number (d ∷ ds) ≡ true → is_apart rest ≡ true → number_len d (ds ++ rest) ≡ suc (length ds)
number_ends d ds rest h apart =
    let p = and_parts (is_digit d && list_all is_digit ds) (not (eqb d 48) || eqb (length ds) 0) h in
    let q = and_parts (is_digit d) (list_all is_digit ds) p.0 in
    cond_both (eqb d 48) 1 (suc (prefix_len is_digit (ds ++ rest))) (λ n. n ≡ suc (length ds))
    (λ zero_first.
    elim (or_cases (not (eqb d 48)) (eqb (length ds) 0) p.1) [
      | inl other ↦ absurd (false≢true (sym (ap not zero_first) ∙ other))
      | inr alone ↦ omega (arith, eqb-true _ _ alone)
    ])
    (λ _. ap (λ (n : ℕ). suc n) (digits_end ds rest q.1 apart))

digit-ascii : (d : ℕ) → is_digit d ≡ true → is_ascii d ≡ true
digit-ascii d h = grind (arith, nat_tests)

pub digits-ascii : (ds : List ℕ) → list_all is_digit ds ≡ true → are_ascii ds ≡ true
digits-ascii [] h = refl
digits-ascii (d ∷ ds) h = let p = and_parts (is_digit d) (list_all is_digit ds) h in and_from _ _ (digit-ascii d p.0) (digits-ascii ds p.1)

abbrev number_item : List ℕ → Item
number_item octets = like (49 ∷ []) octets

small_number : (n : ℕ) → n < 2 ^ 128 → nat_le (2 ^ 128) n ≡ false
small_number n h = grind (arith, nat_tests)

pub number_piece : (digits rest : List ℕ) (ls : List Lexeme) → is_number digits ≡ true → number_value digits < 2 ^ 128 → is_apart rest ≡ true → Reads rest ls → Reads (digits ++ rest) (number digits ∷ ls)
number_piece [] rest ls h small apart r = absurd (false≢true h)
number_piece (d ∷ ds) rest ls h small apart r =
    let p = and_parts (is_digit d && list_all is_digit ds) (not (eqb d 48) || eqb (length ds) 0) h in
    let q = and_parts (is_digit d) (list_all is_digit ds) p.0 in
    let found : item_at (d ∷ ds ++ rest) ≡ Some (found_item (number_item (d ∷ ds)).kind (suc (length ds))) =
    rw (digit-not_white d q.0, digit-not_letter d q.0, q.0) (ap (λ (n : ℕ). Some (found_item (number_item (d ∷ ds)).kind n)) (number_ends d ds rest h apart)) in
    let fine : item_fault (number_item (d ∷ ds)).kind (d ∷ ds) rest ≡ None =
    cond-false (nat_le (2 ^ 128) (number_value (d ∷ ds))) (Some number_too_large) _ (small_number (number_value (d ∷ ds)) small) ∙ cond-false (begins is_digit rest) (Some (bad_character (length (d ∷ ds)))) None (no_digit rest apart) in
    one_more (number_item (d ∷ ds)) rest ls (ascii_text (d ∷ ds) (digits-ascii (d ∷ ds) p.0)) found fine r
