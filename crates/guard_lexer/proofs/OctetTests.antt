-- Which tests on an octet exclude one another.
use Rattle.std.proofs.Common.{◌≡◌, ℕ, true, false, arith}
use Rattle.std.proofs.lemmas.Bool.Decides.{nat_tests}
use Rattle.guard_lexer.specs.Octets.{is_letter, is_digit, is_letter_or_digit, is_hyphen, is_white_space}

pub letter-not_white : (c : ℕ) → is_letter c ≡ true → is_white_space c ≡ false
letter-not_white c h = grind (arith, nat_tests)

pub digit-not_white : (c : ℕ) → is_digit c ≡ true → is_white_space c ≡ false
digit-not_white c h = grind (arith, nat_tests)

pub digit-not_letter : (c : ℕ) → is_digit c ≡ true → is_letter c ≡ false
digit-not_letter c h = grind (arith, nat_tests)

pub letter-or_digit : (c : ℕ) → is_letter c ≡ true → is_letter_or_digit c ≡ true
letter-or_digit c h = grind (arith, nat_tests)

pub digit-or_letter : (c : ℕ) → is_digit c ≡ true → is_letter_or_digit c ≡ true
digit-or_letter c h = grind (arith, nat_tests)

pub hyphen-is : (c : ℕ) → is_hyphen c ≡ true → c ≡ 45
hyphen-is c h = grind (arith, nat_tests)
