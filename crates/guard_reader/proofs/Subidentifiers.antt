-- Subidentifiers of an OBJECT IDENTIFIER, octet by octet.
use Rattle.std.proofs.Common.{◌≡◌, ℕ, ◌+◌, ◌-◌, ◌*◌, ◌^◌, ◌<◌, ◌≤◌, Bool, true, false, cond, ltb, eqb, List, [], ◌∷◌, length, refl, ap, ◌∙◌, arith}
use Rattle.std.specs.Prelude.{◌&&◌, not}
use Rattle.std.proofs.lemmas.Bool.{le-ltb, lt-ltb, ltb-true, and_parts, and_left}
use Rattle.guard_der.specs.Fits.{all_below}
use Rattle.guard_der.specs.Simple.{are_subidentifiers, subidentifiers}
use Rattle.guard_reader.specs.Octets.{reads_on}

-- ---- a number with no room for seven bits more is too large, since its subidentifier ends

abbrev TooLarge : List ℕ → Type 0
TooLarge os = (n : ℕ) (starts : Bool) → are_subidentifiers starts os ≡ true → 0 < length os → 2 ^ 121 ≤ n → all_below (2 ^ 128) (subidentifiers n os) ≡ false

some_left : (os : List ℕ) → are_subidentifiers false os ≡ true → 0 < length os
some_left [] e = absurd cc
some_left (o ∷ os) e = omega arith

larger : (n o : ℕ) (os : List ℕ) (last : Bool) → TooLarge os → 2 ^ 121 ≤ n → are_subidentifiers last os ≡ true
    → all_below (2 ^ 128) (cond last ((n * 128 + o) ∷ subidentifiers 0 os) (subidentifiers (n * 128 + (o - 128)) os)) ≡ false
larger n o os true ih large form = and_left (ltb (n * 128 + o) (2 ^ 128)) (all_below (2 ^ 128) (subidentifiers 0 os)) (le-ltb (n * 128 + o) (2 ^ 128) (omega (arith, large)))
larger n o os false ih large form = ih (n * 128 + (o - 128)) false form (some_left os form) (omega (arith, large))

too_large : (os : List ℕ) → TooLarge os
too_large [] n starts form some large = absurd (omega (arith, some))
too_large (o ∷ os) n starts form some large = larger n o os (ltb o 128) (too_large os) large (and_parts (not (starts && eqb o 128)) (are_subidentifiers (ltb o 128) os) form).1

form_tested : (b : Bool) (os : List ℕ) (n : ℕ) (starts : Bool) → are_subidentifiers starts os ≡ b → 0 < length os → 2 ^ 121 ≤ n → reads_on starts n os ≡ false
form_tested false os n starts form some large = ap (λ (b : Bool). b && all_below (2 ^ 128) (subidentifiers n os)) form
form_tested true os n starts form some large = ap (λ (b : Bool). b && all_below (2 ^ 128) (subidentifiers n os)) form ∙ too_large os n starts form some large

pub full : (starts : Bool) (n : ℕ) (os : List ℕ) → 0 < length os → 2 ^ 121 ≤ n → reads_on starts n os ≡ false
full starts n os some large = form_tested (are_subidentifiers starts os) os n starts refl some large

-- ---- one octet

pub padded : (starts : Bool) (n o : ℕ) (os : List ℕ) → (starts && eqb o 128) ≡ true → reads_on starts n (o ∷ os) ≡ false
padded starts n o os e =
    ap (λ (b : Bool). (not b && are_subidentifiers (ltb o 128) os) && all_below (2 ^ 128) (subidentifiers n (o ∷ os))) e

next_tested : (n o : ℕ) (os : List ℕ) (last : Bool) → ltb o 128 ≡ last → n < 2 ^ 121
    → (are_subidentifiers last os && all_below (2 ^ 128) (cond last ((n * 128 + o) ∷ subidentifiers 0 os) (subidentifiers (n * 128 + (o - 128)) os)))
    ≡ reads_on last (cond last 0 (n * 128 + (o - 128))) os
next_tested n o os true is room =
    let small : o < 128 = omega (arith, ltb-true o 128 is) in
    ap (λ (b : Bool). are_subidentifiers true os && (b && all_below (2 ^ 128) (subidentifiers 0 os))) (lt-ltb (n * 128 + o) (2 ^ 128) (omega (arith, room, small)))
next_tested n o os false is room = refl

pub goes_on : (starts : Bool) (n o : ℕ) (os : List ℕ) → (starts && eqb o 128) ≡ false → n < 2 ^ 121 → reads_on starts n (o ∷ os) ≡ reads_on (ltb o 128) (cond (ltb o 128) 0 (n * 128 + (o - 128))) os
goes_on starts n o os e room =
    ap (λ (b : Bool). (not b && are_subidentifiers (ltb o 128) os) && all_below (2 ^ 128) (subidentifiers n (o ∷ os))) e
    ∙ next_tested n o os (ltb o 128) refl room
