-- The length that reading gives is that of the longest word, number and comment.
use Rattle.std.proofs.Common.{◌≡◌, ℕ, zero, suc, ◌+◌, ◌≤◌, Bool, true, false, cond, ◌&&◌, List, [], ◌∷◌, ◌++◌, length, take, refl, sym, ◌∙◌, inl, inr, arith}
use Rattle.std.specs.List.{list_all, prefix_len}
use Rattle.std.proofs.lemmas.Bool.{and_parts, and_from, or_cases, or_left, or_right, cases_Bool, false≢true, both_ways, cond-true, cond-false, cond_both, eqb-true, false_from_ne_true}
use Rattle.guard_lexer.specs.Octets.{is_digit, is_letter_or_digit, is_hyphen, is_line_end, begins}
use Rattle.guard_lexer.specs.Items.{is_of_word, are_of_word, is_line_comment_body}
use Rattle.guard_lexer.specs.inside.Reading.{word_len, comment_body_len}

-- ---- words

pub begins-append : (test : ℕ → Bool) (a b : List ℕ) → begins test a ≡ true → begins test (a ++ b) ≡ true
begins-append test [] b h = absurd (false≢true h)
begins-append test (c ∷ a) b h = h

is_of_word-append : (c : ℕ) (a b : List ℕ) → is_of_word c a ≡ true → is_of_word c (a ++ b) ≡ true
is_of_word-append c a b h =
    elim (or_cases (is_letter_or_digit c) (is_hyphen c && begins is_letter_or_digit a) h) [
      | inl alone ↦ or_left _ _ alone
      | inr both ↦ let p = and_parts (is_hyphen c) (begins is_letter_or_digit a) both in or_right _ _ (and_from _ _ p.0 (begins-append is_letter_or_digit a b p.1))
    ]

pub word-longest : (a b : List ℕ) → are_of_word a ≡ true → length a ≤ word_len (a ++ b)
word-longest [] b h = omega arith
word-longest (c ∷ a) b h =
    let p = and_parts (is_of_word c a) (are_of_word a) h in
    rw (cond-true (is_of_word c (a ++ b)) (suc (word_len (a ++ b))) 0 (is_of_word-append c a b p.0)) (omega (arith, word-longest a b p.1))

-- the part of a word that is taken begins with a letter or digit where all of it does
begins-taken : (cs : List ℕ) → begins is_letter_or_digit cs ≡ true → begins is_letter_or_digit (take (word_len cs) cs) ≡ true
begins-taken [] h = h
begins-taken (c ∷ cs) h = rw (cond-true (is_of_word c cs) (suc (word_len cs)) 0 (or_left _ _ h)) h

is_of_word-taken : (c : ℕ) (cs : List ℕ) → is_of_word c cs ≡ true → is_of_word c (take (word_len cs) cs) ≡ true
is_of_word-taken c cs h =
    elim (or_cases (is_letter_or_digit c) (is_hyphen c && begins is_letter_or_digit cs) h) [
      | inl alone ↦ or_left _ _ alone
      | inr both ↦ let p = and_parts (is_hyphen c) (begins is_letter_or_digit cs) both in or_right _ _ (and_from _ _ p.0 (begins-taken cs p.1))
    ]

pub word-is : (cs : List ℕ) → are_of_word (take (word_len cs) cs) ≡ true
word-is [] = refl
word-is (c ∷ cs) =
    elim (cases_Bool (is_of_word c cs)) [
      | inl h ↦ rw (cond-true (is_of_word c cs) (suc (word_len cs)) 0 h) (and_from _ _ (is_of_word-taken c cs h) (word-is cs))
      | inr h ↦ rw (cond-false (is_of_word c cs) (suc (word_len cs)) 0 h) refl
    ]

pub word-fits : (cs : List ℕ) → word_len cs ≤ length cs
word-fits [] = omega arith
word-fits (c ∷ cs) =
    elim (cases_Bool (is_of_word c cs)) [
      | inl h ↦ rw (cond-true (is_of_word c cs) (suc (word_len cs)) 0 h) (omega (arith, word-fits cs))
      | inr h ↦ rw (cond-false (is_of_word c cs) (suc (word_len cs)) 0 h) (omega arith)
    ]

-- ---- digits

pub digits-longest : (a b : List ℕ) → list_all is_digit a ≡ true → length a ≤ prefix_len is_digit (a ++ b)
digits-longest [] b h = omega arith
digits-longest (c ∷ a) b h =
    let p = and_parts (is_digit c) (list_all is_digit a) h in
    rw (cond-true (is_digit c) (1 + prefix_len is_digit (a ++ b)) 0 p.0) (omega (arith, digits-longest a b p.1))

pub digits-are : (cs : List ℕ) → list_all is_digit (take (prefix_len is_digit cs) cs) ≡ true
digits-are [] = refl
digits-are (c ∷ cs) =
    elim (cases_Bool (is_digit c)) [
      | inl h ↦
          let one : 1 + prefix_len is_digit cs ≡ suc (prefix_len is_digit cs) = omega arith in
          rw (cond-true (is_digit c) (1 + prefix_len is_digit cs) 0 h, one) (and_from _ _ h (digits-are cs))
      | inr h ↦ rw (cond-false (is_digit c) (1 + prefix_len is_digit cs) 0 h) refl
    ]

-- ---- comments

abbrev behind_open : ℕ → List ℕ → ℕ
behind_open c cs = cond (is_hyphen c && begins is_hyphen cs) 2 (suc (comment_body_len cs))

hyphens-append : (c : ℕ) (a b : List ℕ) → (is_hyphen c && begins is_hyphen a) ≡ true → (is_hyphen c && begins is_hyphen (a ++ b)) ≡ true
hyphens-append c a b h = let p = and_parts (is_hyphen c) (begins is_hyphen a) h in and_from _ _ p.0 (begins-append is_hyphen a b p.1)

open-longest : (c : ℕ) (a b : List ℕ) → (is_hyphen c && begins is_hyphen a) ≡ false → length a ≤ comment_body_len (a ++ b) → suc (length a) ≤ behind_open c (a ++ b)
open-longest c [] b h le = cond_both (is_hyphen c && begins is_hyphen b) 2 (suc (comment_body_len b)) (λ n. 1 ≤ n) (λ _. omega arith) (λ _. omega arith)
open-longest c (d ∷ a) b h le = rw (cond-false (is_hyphen c && is_hyphen d) 2 (suc (comment_body_len (d ∷ a ++ b))) h) (omega arith)

pub body-longest : (a b : List ℕ) → is_line_comment_body a ≡ true → length a ≤ comment_body_len (a ++ b)
body-longest [] b h = omega arith
body-longest (c ∷ a) b h =
    elim (cases_Bool (is_line_end c)) [
      | inl ends ↦ absurd (false≢true (sym (cond-true (is_line_end c) false _ ends) ∙ h))
      | inr goes_on ↦
          let h2 = sym (cond-false (is_line_end c) false _ goes_on) ∙ h in
          rw (cond-false (is_line_end c) 0 (behind_open c (a ++ b)) goes_on)
          (elim (cases_Bool (is_hyphen c && begins is_hyphen a)) [
            | inl closes ↦
                let one : length a ≡ 1 = eqb-true _ _ (sym (cond-true (is_hyphen c && begins is_hyphen a) _ _ closes) ∙ h2) in
                rw (cond-true (is_hyphen c && begins is_hyphen (a ++ b)) 2 (suc (comment_body_len (a ++ b))) (hyphens-append c a b closes)) (omega arith)
            | inr apart ↦ open-longest c a b apart (body-longest a b (sym (cond-false (is_hyphen c && begins is_hyphen a) _ _ apart) ∙ h2))
          ])
    ]

begins-from_take : (test : ℕ → Bool) (n : ℕ) (cs : List ℕ) → begins test (take n cs) ≡ true → begins test cs ≡ true
begins-from_take test zero cs h = absurd (false≢true h)
begins-from_take test (suc n) [] h = h
begins-from_take test (suc n) (c ∷ cs) h = h

open-taken : (c n : ℕ) (cs : List ℕ) → (is_hyphen c && begins is_hyphen cs) ≡ false → (is_hyphen c && begins is_hyphen (take n cs)) ≡ false
open-taken c n cs h =
    false_from_ne_true _ (λ yes_. let p = and_parts (is_hyphen c) (begins is_hyphen (take n cs)) yes_ in both_ways _ h (and_from _ _ p.0 (begins-from_take is_hyphen n cs p.1)))

closed-is : (c : ℕ) (cs : List ℕ) → is_line_end c ≡ false → (is_hyphen c && begins is_hyphen cs) ≡ true → is_line_comment_body (take 2 (c ∷ cs)) ≡ true
closed-is c [] goes_on closes = absurd (false≢true (and_parts (is_hyphen c) false closes).1)
closed-is c (d ∷ cs) goes_on closes = rw (cond-false (is_line_end c) false _ goes_on, cond-true (is_hyphen c && is_hyphen d) true _ closes) refl

pub body-is : (cs : List ℕ) → is_line_comment_body (take (comment_body_len cs) cs) ≡ true
body-is [] = refl
body-is (c ∷ cs) =
    elim (cases_Bool (is_line_end c)) [
      | inl ends ↦ rw (cond-true (is_line_end c) 0 (behind_open c cs) ends) refl
      | inr goes_on ↦
          rw (cond-false (is_line_end c) 0 (behind_open c cs) goes_on)
          (elim (cases_Bool (is_hyphen c && begins is_hyphen cs)) [
            | inl closes ↦ rw (cond-true (is_hyphen c && begins is_hyphen cs) 2 (suc (comment_body_len cs)) closes) (closed-is c cs goes_on closes)
            | inr apart ↦
                rw (cond-false (is_hyphen c && begins is_hyphen cs) 2 (suc (comment_body_len cs)) apart)
                (cond-false (is_line_end c) false _ goes_on ∙ cond-false (is_hyphen c && begins is_hyphen (take (comment_body_len cs) cs)) _ _ (open-taken c (comment_body_len cs) cs apart) ∙ body-is cs)
          ])
    ]

closed-fits : (c : ℕ) (cs : List ℕ) → (is_hyphen c && begins is_hyphen cs) ≡ true → 2 ≤ suc (length cs)
closed-fits c [] closes = absurd (false≢true (and_parts (is_hyphen c) false closes).1)
closed-fits c (d ∷ cs) closes = omega arith

pub body-fits : (cs : List ℕ) → comment_body_len cs ≤ length cs
body-fits [] = omega arith
body-fits (c ∷ cs) =
    cond_both (is_line_end c) 0 (behind_open c cs) (λ n. n ≤ suc (length cs)) (λ _. omega arith)
    (λ _. cond_both (is_hyphen c && begins is_hyphen cs) 2 (suc (comment_body_len cs)) (λ n. n ≤ suc (length cs)) (λ closes. closed-fits c cs closes) (λ _. omega (arith, body-fits cs)))
