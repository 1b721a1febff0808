-- The characters of each alphabet are characters of Unicode.
use Rattle.std.proofs.Common.{◌≡◌, ℕ, ◌<◌, true, List, [], ◌∷◌, refl, arith}
use Rattle.std.proofs.lemmas.Bool.{and_parts, and_from}
use Rattle.std.proofs.lemmas.Bool.Decides.{nat_tests}
use lib.Utf8.{scalars, low_scalar}
use Rattle.guard_model.specs.declared.ty.CharKind.{CharKind}
use Rattle.guard_model.specs.declared.ty.CharKind.TheVariants.{Numeric, Printable, Ia5, Visible, Utf8}
use Rattle.guard_model.specs.Alphabets.{is_character, all_characters, fits_characters}

numeric_low : (c : ℕ) → is_character Numeric c ≡ true → c < 128
numeric_low c h = grind (arith, nat_tests)

printable_low : (c : ℕ) → is_character Printable c ≡ true → c < 128
printable_low c h = grind (arith, nat_tests)

ia5_low : (c : ℕ) → is_character Ia5 c ≡ true → c < 128
ia5_low c h = grind (arith, nat_tests)

visible_low : (c : ℕ) → is_character Visible c ≡ true → c < 128
visible_low c h = grind (arith, nat_tests)

all_low : (k : CharKind) → ((c : ℕ) → is_character k c ≡ true → c < 128) → (cs : List ℕ) → all_characters k cs ≡ true → scalars cs ≡ true
all_low k low [] h = refl
all_low k low (c ∷ cs) h =
    let p = and_parts (is_character k c) (all_characters k cs) h in
    let lt : c < 128 = low c p.0 in
    and_from _ _ (low_scalar c (omega (arith, lt))) (all_low k low cs p.1)

pub proper_codes : (k : CharKind) (cs : List ℕ) → fits_characters k cs ≡ true → scalars cs ≡ true
proper_codes Numeric cs h = all_low Numeric numeric_low cs h
proper_codes Printable cs h = all_low Printable printable_low cs h
proper_codes Ia5 cs h = all_low Ia5 ia5_low cs h
proper_codes Visible cs h = all_low Visible visible_low cs h
proper_codes Utf8 cs h = h
