-- What reading leaves of a comment or string is what follows it.
use Rattle.std.proofs.Common.{◌≡◌, ℕ, zero, suc, ◌-◌, ◌≤◌, ◌<◌, Bool, true, false, eqb, List, [], ◌∷◌, ◌++◌, length, drop, Option, Some, None, refl, sym, ap, ◌∙◌, inl, inr, arith}
use Rattle.std.proofs.lemmas.Bool.{and_parts, and_from, cases_Bool, false≢true, cond-true, cond-false, eqb-true, ne_eqb}
use Rattle.std.proofs.lemmas.Bool.Decides.{nat_tests}
use Rattle.std.proofs.lemmas.List.{nil_from_length}
use Rattle.std.proofs.lemmas.Option.{same_Some, none-some, cond_some}
use Rattle.guard_model.proofs.Tests.{chosen}
use Rattle.guard_lexer.specs.Octets.{is_quote, is_apostrophe, is_line_end, is_of_bits, is_of_hexadecimal, begins}
use Rattle.guard_lexer.specs.Items.{opens, closes, begins_comment, ends_comment, is_block_rest, is_string_rest, is_digits_rest}
use Rattle.guard_lexer.specs.inside.Reading.{behind_block_comment, behind_string, behind_digits}

-- The front of the octets that passes the test, with what is left after it.
abbrev pub Splits : (List ℕ → Bool) → List ℕ → List ℕ → Type 0
Splits test octets rest = (body : List ℕ) × (octets ≡ body ++ rest) × (test body ≡ true)

-- ---- block comments

-- what follows a closing: the end of the comment, or the rest of the one round it
abbrev is_closed_rest : ℕ → List ℕ → Bool
is_closed_rest inner octets = elim inner [ zero ↦ eqb (length octets) 0 | suc others ↦ is_block_rest others octets ]

abbrev behind_closing : ℕ → List ℕ → Option (List ℕ)
behind_closing inner octets = elim inner [ zero ↦ Some octets | suc others ↦ behind_block_comment others octets ]

closing-append : (inner : ℕ) (octets after : List ℕ) → ((n : ℕ) → is_block_rest n octets ≡ true → behind_block_comment n (octets ++ after) ≡ Some after)
    → is_closed_rest inner octets ≡ true → behind_closing inner (octets ++ after) ≡ Some after
closing-append zero octets after others h = ap (λ (o : List ℕ). Some (o ++ after)) (nil_from_length octets (eqb-true _ _ h))
closing-append (suc n) octets after others h = others n h

pub block_comment-append : (inner : ℕ) (octets after : List ℕ) → is_block_rest inner octets ≡ true → behind_block_comment inner (octets ++ after) ≡ Some after
block_comment-append inner [] after h = absurd (false≢true h)
block_comment-append inner (a ∷ []) after h = absurd (false≢true h)
block_comment-append inner (a ∷ b ∷ os) after h =
    elim (chosen (opens a b) _ _ true h) [
      | inl (deeper, more) ↦ cond-true (opens a b) _ _ deeper ∙ block_comment-append (suc inner) os after more
      | inr (shut, more) ↦
          cond-false (opens a b) _ _ shut
          ∙ elim (chosen (closes a b) _ _ true more) [
            | inl (ends, last) ↦ cond-true (closes a b) _ _ ends ∙ closing-append inner os after (λ n. block_comment-append n os after) last
            | inr (other, last) ↦ cond-false (closes a b) _ _ other ∙ block_comment-append inner (b ∷ os) after last
          ]
    ]

-- one step of the reading

pub block_comment-opens : (inner : ℕ) (text : List ℕ) → begins_comment text ≡ true → behind_block_comment inner text ≡ behind_block_comment (suc inner) (drop 2 text)
block_comment-opens inner [] h = absurd (false≢true h)
block_comment-opens inner (a ∷ []) h = absurd (false≢true h)
block_comment-opens inner (a ∷ b ∷ os) h = cond-true (opens a b) _ _ h

pub block_comment-ends : (text : List ℕ) → begins_comment text ≡ false → ends_comment text ≡ true → behind_block_comment 0 text ≡ Some (drop 2 text)
block_comment-ends [] h e = absurd (false≢true e)
block_comment-ends (a ∷ []) h e = absurd (false≢true e)
block_comment-ends (a ∷ b ∷ os) h e = cond-false (opens a b) _ _ h ∙ cond-true (closes a b) _ _ e

pub block_comment-closes : (inner : ℕ) (text : List ℕ) → 0 < inner → begins_comment text ≡ false → ends_comment text ≡ true → behind_block_comment inner text ≡ behind_block_comment (inner - 1) (drop 2 text)
block_comment-closes inner [] some h e = absurd (false≢true e)
block_comment-closes inner (a ∷ []) some h e = absurd (false≢true e)
block_comment-closes zero (a ∷ b ∷ os) some h e = absurd (omega arith)
block_comment-closes (suc n) (a ∷ b ∷ os) some h e =
    cond-false (opens a b) _ _ h ∙ cond-true (closes a b) _ _ e ∙ ap (λ (m : ℕ). behind_block_comment m os) (omega arith)

pub block_comment-goes_on : (inner : ℕ) (text : List ℕ) → 2 ≤ length text → begins_comment text ≡ false → ends_comment text ≡ false → behind_block_comment inner text ≡ behind_block_comment inner (drop 1 text)
block_comment-goes_on inner [] long h e = absurd (omega arith)
block_comment-goes_on inner (a ∷ []) long h e = absurd (omega arith)
block_comment-goes_on inner (a ∷ b ∷ os) long h e = cond-false (opens a b) _ _ h ∙ cond-false (closes a b) _ _ e

pub block_comment-none : (inner : ℕ) (text : List ℕ) → length text < 2 → behind_block_comment inner text ≡ None
block_comment-none inner [] short = refl
block_comment-none inner (a ∷ []) short = refl
block_comment-none inner (a ∷ b ∷ os) short = absurd (omega arith)

block_comment-cons : (inner a b : ℕ) (body os rest : List ℕ) → opens a b ≡ false → closes a b ≡ false → b ∷ os ≡ body ++ rest → is_block_rest inner body ≡ true → is_block_rest inner (a ∷ body) ≡ true
block_comment-cons inner a b [] os rest shut other e h = absurd (false≢true h)
block_comment-cons inner a b (c ∷ body) os rest shut other e h =
    let same : b ≡ c = cc in
    cond-false (opens a c) _ _ (sym (ap (opens a) same) ∙ shut) ∙ cond-false (closes a c) _ _ (sym (ap (closes a) same) ∙ other) ∙ h

closing-Some : (inner : ℕ) (octets rest : List ℕ) → ((n : ℕ) → behind_block_comment n octets ≡ Some rest → Splits (is_block_rest n) octets rest)
    → behind_closing inner octets ≡ Some rest → Splits (is_closed_rest inner) octets rest
closing-Some zero octets rest others e = ([], same_Some octets rest e, refl)
closing-Some (suc n) octets rest others e = others n e

pub block_comment-Some : (inner : ℕ) (octets rest : List ℕ) → behind_block_comment inner octets ≡ Some rest → Splits (is_block_rest inner) octets rest
block_comment-Some inner [] rest e = absurd (none-some rest e)
block_comment-Some inner (a ∷ []) rest e = absurd (none-some rest e)
block_comment-Some inner (a ∷ b ∷ os) rest e =
    elim (chosen (opens a b) _ _ (Some rest) e) [
      | inl (deeper, more) ↦
          let r = block_comment-Some (suc inner) os rest more in
          (a ∷ b ∷ r.0, ap (λ (x : List ℕ). a ∷ b ∷ x) r.1, cond-true (opens a b) (is_block_rest (suc inner) r.0) _ deeper ∙ r.2)
      | inr (shut, more) ↦
          elim (chosen (closes a b) _ _ (Some rest) more) [
            | inl (ends, last) ↦
                let r = closing-Some inner os rest (λ n. block_comment-Some n os rest) last in
                (a ∷ b ∷ r.0, ap (λ (x : List ℕ). a ∷ b ∷ x) r.1, cond-false (opens a b) _ _ shut ∙ cond-true (closes a b) _ _ ends ∙ r.2)
            | inr (other, last) ↦
                let r = block_comment-Some inner (b ∷ os) rest last in
                (a ∷ r.0, ap (λ (x : List ℕ). a ∷ x) r.1, block_comment-cons inner a b r.0 os rest shut other r.1 r.2)
          ]
    ]

-- ---- strings in quotes

quote-in_line : (c : ℕ) → is_quote c ≡ true → is_line_end c ≡ false
quote-in_line c h = grind (arith, nat_tests)

closing : (c : ℕ) (after : List ℕ) → is_quote c ≡ true → begins is_quote after ≡ false → behind_string (c ∷ after) ≡ Some after
closing c [] h none = cond-true (is_quote c) _ _ h
closing c (d ∷ ds) h none = cond-false (is_line_end c) _ _ (quote-in_line c h) ∙ cond-true (is_quote c) _ _ h ∙ cond-false (is_quote d) _ _ none

pub string-append : (octets after : List ℕ) → is_string_rest octets ≡ true → begins is_quote after ≡ false → behind_string (octets ++ after) ≡ Some after
string-append [] after h none = absurd (false≢true h)
string-append (a ∷ []) after h none = closing a after h none
string-append (a ∷ b ∷ os) after h none =
    elim (chosen (is_line_end a) _ _ true h) [
      | inl (ends, wrong) ↦ absurd (false≢true wrong)
      | inr (goes_on, more) ↦
          cond-false (is_line_end a) _ _ goes_on
          ∙ elim (chosen (is_quote a) _ _ true more) [
            | inl (quoted, twice) ↦
                let p = and_parts (is_quote b) (is_string_rest os) twice in
                cond-true (is_quote a) _ _ quoted ∙ cond-true (is_quote b) _ _ p.0 ∙ string-append os after p.1 none
            | inr (other, last) ↦ cond-false (is_quote a) _ _ other ∙ string-append (b ∷ os) after last none
          ]
    ]

string-cons : (a : ℕ) (body : List ℕ) → is_line_end a ≡ false → is_quote a ≡ false → is_string_rest body ≡ true → is_string_rest (a ∷ body) ≡ true
string-cons a [] goes_on other h = absurd (false≢true h)
string-cons a (b ∷ body) goes_on other h = cond-false (is_line_end a) _ _ goes_on ∙ cond-false (is_quote a) _ _ other ∙ h

-- a string, with no quote directly after it
abbrev pub SplitsString : List ℕ → List ℕ → Type 0
SplitsString octets rest = (body : List ℕ) × (octets ≡ body ++ rest) × (is_string_rest body ≡ true) × (begins is_quote rest ≡ false)

pub string-Some : (octets rest : List ℕ) → behind_string octets ≡ Some rest → SplitsString octets rest
string-Some [] rest e = absurd (none-some rest e)
string-Some (a ∷ []) rest e =
    let (quoted, none) = cond_some (is_quote a) [] rest e in
    (a ∷ [], ap (λ (x : List ℕ). a ∷ x) none, quoted, sym (ap (begins is_quote) none))
string-Some (a ∷ b ∷ os) rest e =
    elim (chosen (is_line_end a) _ _ (Some rest) e) [
      | inl (ends, wrong) ↦ absurd (none-some rest wrong)
      | inr (goes_on, more) ↦
          elim (chosen (is_quote a) _ _ (Some rest) more) [
            | inl (quoted, last) ↦
                elim (chosen (is_quote b) _ _ (Some rest) last) [
                  | inl (twice, after) ↦
                      let r = string-Some os rest after in
                      (a ∷ b ∷ r.0, ap (λ (x : List ℕ). a ∷ b ∷ x) r.1, cond-false (is_line_end a) _ _ goes_on ∙ cond-true (is_quote a) _ _ quoted ∙ and_from _ _ twice r.2, r.3)
                  | inr (once, here) ↦
                      let same : b ∷ os ≡ rest = same_Some (b ∷ os) rest here in
                      (a ∷ [], ap (λ (x : List ℕ). a ∷ x) same, quoted, sym (ap (begins is_quote) same) ∙ once)
                ]
            | inr (other, last) ↦
                let r = string-Some (b ∷ os) rest last in
                (a ∷ r.0, ap (λ (x : List ℕ). a ∷ x) r.1, string-cons a r.0 goes_on other r.2, r.3)
          ]
    ]

-- ---- bit and hexadecimal strings

pub digits-append : (digit : ℕ → Bool) (letter : ℕ) (octets after : List ℕ) → is_digits_rest digit letter octets ≡ true → behind_digits digit letter (octets ++ after) ≡ Some after
digits-append digit letter [] after h = absurd (false≢true h)
digits-append digit letter (a ∷ []) after h =
    elim (chosen (is_apostrophe a) _ _ true h) [
      | inl (closed, wrong) ↦ absurd (false≢true wrong)
      | inr (other, wrong) ↦ absurd (false≢true (and_parts (digit a) false wrong).1)
    ]
digits-append digit letter (a ∷ b ∷ os) after h =
    elim (chosen (is_apostrophe a) _ _ true h) [
      | inl (closed, last) ↦
          let p = and_parts (eqb b letter) (eqb (suc (length os)) 1) last in
          let none = nil_from_length os (omega (arith, eqb-true _ _ p.1)) in
          cond-true (is_apostrophe a) _ _ closed ∙ cond-true (eqb b letter) _ _ p.0 ∙ ap (λ (o : List ℕ). Some (o ++ after)) none
      | inr (other, more) ↦
          let p = and_parts (digit a) (is_digits_rest digit letter (b ∷ os)) more in
          cond-false (is_apostrophe a) _ _ other ∙ cond-true (digit a) _ _ p.0 ∙ digits-append digit letter (b ∷ os) after p.1
    ]

digits-cons : (digit : ℕ → Bool) (letter a : ℕ) (body : List ℕ) → is_apostrophe a ≡ false → digit a ≡ true → is_digits_rest digit letter body ≡ true → is_digits_rest digit letter (a ∷ body) ≡ true
digits-cons digit letter a body other d h = cond-false (is_apostrophe a) _ _ other ∙ and_from _ _ d h

pub digits-Some : (digit : ℕ → Bool) (letter : ℕ) (octets rest : List ℕ) → behind_digits digit letter octets ≡ Some rest → Splits (is_digits_rest digit letter) octets rest
digits-Some digit letter [] rest e = absurd (none-some rest e)
digits-Some digit letter (a ∷ []) rest e = absurd (none-some rest e)
digits-Some digit letter (a ∷ b ∷ os) rest e =
    elim (chosen (is_apostrophe a) _ _ (Some rest) e) [
      | inl (closed, last) ↦
          let (is_letter, same) = cond_some (eqb b letter) os rest last in
          (a ∷ b ∷ [], ap (λ (x : List ℕ). a ∷ b ∷ x) same, cond-true (is_apostrophe a) _ _ closed ∙ and_from _ _ is_letter refl)
      | inr (other, more) ↦
          elim (chosen (digit a) _ _ (Some rest) more) [
            | inl (is_digit, after) ↦
                let r = digits-Some digit letter (b ∷ os) rest after in
                (a ∷ r.0, ap (λ (x : List ℕ). a ∷ x) r.1, digits-cons digit letter a r.0 other is_digit r.2)
            | inr (none, wrong) ↦ absurd (none-some rest wrong)
          ]
    ]

-- a hexadecimal string is no bit string
pub no_bits : (octets after : List ℕ) → is_digits_rest is_of_hexadecimal 72 octets ≡ true → behind_digits is_of_bits 66 (octets ++ after) ≡ None
no_bits [] after h = absurd (false≢true h)
no_bits (a ∷ []) after h =
    elim (chosen (is_apostrophe a) _ _ true h) [
      | inl (closed, wrong) ↦ absurd (false≢true wrong)
      | inr (other, wrong) ↦ absurd (false≢true (and_parts (is_of_hexadecimal a) false wrong).1)
    ]
no_bits (a ∷ b ∷ os) after h =
    elim (chosen (is_apostrophe a) _ _ true h) [
      | inl (closed, last) ↦
          let b_is = eqb-true b 72 (and_parts (eqb b 72) (eqb (suc (length os)) 1) last).0 in
          cond-true (is_apostrophe a) _ _ closed ∙ cond-false (eqb b 66) _ _ (ne_eqb b 66 (λ e. omega arith))
      | inr (other, more) ↦
          let p = and_parts (is_of_hexadecimal a) (is_digits_rest is_of_hexadecimal 72 (b ∷ os)) more in
          cond-false (is_apostrophe a) _ _ other
          ∙ elim (cases_Bool (is_of_bits a)) [
            | inl d ↦ cond-true (is_of_bits a) _ _ d ∙ no_bits (b ∷ os) after p.1
            | inr none ↦ cond-false (is_of_bits a) _ _ none
          ]
    ]
