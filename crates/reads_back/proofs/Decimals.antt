-- Numbers in decimal digits are read as the numbers that they are.
use Rattle.std.proofs.Common.{◌≡◌, ℕ, ◌+◌, ◌-◌, ◌*◌, ◌/◌, ◌%◌, ◌^◌, ◌<◌, ◌≤◌, true, not, eqb, List, [], ◌∷◌, ◌++◌, length, refl, sym, ap, subst, ◌∙◌, inl, inr, decimal, arith}
use Rattle.std.specs.List.{list_all}
use Rattle.std.proofs.lemmas.Bool.{and_parts, and_from, or_left, or_right, cases_Bool, eqb-true}
use Rattle.std.proofs.lemmas.Bool.Decides.{nat_tests}
use Rattle.std.proofs.lemmas.Fmt.{decimal_by_steps_wide}
use Rattle.std.proofs.lemmas.List.Folds.{list_all-append}
use Rattle.std.proofs.lemmas.List.Sums.{fold-append}
use Rattle.guard_lexer.specs.Octets.{is_digit}
use Rattle.guard_lexer.specs.Items.{is_number, number_value}

-- digits of the number, with no 0 before others
record IsDecimal (n : ℕ) (ds : List ℕ) : Type 0 where
  first : ℕ
  others : List ℕ
  split : ds ≡ first ∷ others
  digits : list_all is_digit ds ≡ true
  proper : first ≡ 48 → n ≡ 0 × others ≡ []
  value : number_value ds ≡ n

digit_is : (n : ℕ) → n < 10 → is_digit (48 + n) ≡ true
digit_is n h = grind (arith, nat_tests)

one : (n : ℕ) → n < 10 → IsDecimal n ((48 + n) ∷ [])
one n h = record {
  first = 48 + n;
  others = [];
  split = refl;
  digits = and_from _ _ (digit_is n h) refl;
  proper = λ e. (omega arith, refl);
  value = omega arith;
}

more : (n : ℕ) (ds : List ℕ) → 10 ≤ n → IsDecimal (n / 10) ds → IsDecimal n (ds ++ ((48 + n % 10) ∷ []))
more n ds h d = record {
  first = d.first;
  others = d.others ++ ((48 + n % 10) ∷ []);
  split = ap (λ (xs : List ℕ). xs ++ ((48 + n % 10) ∷ [])) d.split;
  digits = list_all-append is_digit ds ((48 + n % 10) ∷ []) ∙ and_from _ _ d.digits (and_from _ _ (digit_is (n % 10) (omega arith)) refl);
  proper = λ e. absurd (omega (arith, (d.proper e).0));
  value = fold-append (λ value digit. value * 10 + (digit - 48)) 0 ds ((48 + n % 10) ∷ []) ∙ omega (arith, d.value);
}

is_decimal : (n : ℕ) → n < 10 ^ 64 → IsDecimal n (decimal n)
is_decimal n h = decimal_by_steps_wide IsDecimal one more n h

number_from : (n : ℕ) (ds : List ℕ) (first : ℕ) (others : List ℕ) → ds ≡ first ∷ others → list_all is_digit ds ≡ true → (first ≡ 48 → n ≡ 0 × others ≡ []) → is_number ds ≡ true
number_from n ds first others split digits proper =
    subst (λ (xs : List ℕ). is_number xs ≡ true) (sym split) (and_from _ _ (subst (λ (xs : List ℕ). list_all is_digit xs ≡ true) split digits)
    (elim (cases_Bool (eqb first 48)) [
      | inl zero_first ↦ or_right (not (eqb first 48)) _ (ap (λ (xs : List ℕ). eqb (length xs) 0) (proper (eqb-true first 48 zero_first)).1)
      | inr other ↦ or_left _ _ (ap not other)
    ]))

pub decimal_number : (n : ℕ) → n < 10 ^ 64 → is_number (decimal n) ≡ true
decimal_number n h = let d = is_decimal n h in number_from n (decimal n) d.first d.others d.split d.digits d.proper

pub decimal_value : (n : ℕ) → n < 10 ^ 64 → number_value (decimal n) ≡ n
decimal_value n h = (is_decimal n h).value

pub record Begins (ds : List ℕ) : Type 0 where
  pub first : ℕ
  pub others : List ℕ
  pub split : ds ≡ first ∷ others
  pub digit : is_digit first ≡ true

pub decimal_begins : (n : ℕ) → n < 10 ^ 64 → Begins (decimal n)
decimal_begins n h =
    let d = is_decimal n h in
    record {
      first = d.first;
      others = d.others;
      split = d.split;
      digit = (and_parts (is_digit d.first) (list_all is_digit d.others) (subst (λ (xs : List ℕ). list_all is_digit xs ≡ true) d.split d.digits)).0;
    }
