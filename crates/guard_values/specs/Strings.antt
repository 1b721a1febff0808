-- What strings say: those of bits and of hexadecimal digits (X.680 clauses 22 and 23), and those in double quotes
-- (clause 41).
use Rattle.std.specs.Prelude.{ℕ, zero, suc, ◌+◌, ◌-◌, ◌*◌, ◌/◌, ◌%◌, ◌^◌, Bool, ◌||◌, ◌&&◌, ◌==◌, List, [], ◌∷◌, ◌++◌, map, filter, length, drop, nat_le, if◌then◌else◌}
use Rattle.guard_lexer.specs.Octets.{is_digit, is_quote}

-- ---- strings of digits

abbrev pub is_binary_digit : ℕ → Bool
is_binary_digit octet = octet == 48 || octet == 49

abbrev pub is_hexadecimal_digit : ℕ → Bool
is_hexadecimal_digit octet = is_digit octet || (nat_le 65 octet && nat_le octet 70)

-- 0 to 9 are themselves, A to F ten to fifteen
abbrev pub digit_value : ℕ → ℕ
digit_value octet = if nat_le octet 57 then octet - 48 else octet - 55

-- The digits of a string in written order. Its apostrophes, its white space and the letter after it are no digits.
abbrev pub binary_digits : List ℕ → List ℕ
binary_digits spelling = map digit_value (filter is_binary_digit spelling)

abbrev pub hexadecimal_digits : List ℕ → List ℕ
hexadecimal_digits spelling = map digit_value (filter is_hexadecimal_digit spelling)

-- Four bits for a hexadecimal digit, the first the highest (clauses 22 and 23).
abbrev pub four_bits : ℕ → List ℕ
four_bits d = d / 8 ∷ d / 4 % 2 ∷ d / 2 % 2 ∷ d % 2 ∷ []

abbrev pub bits_of_digits : List ℕ → List ℕ
bits_of_digits [] = []
bits_of_digits (d ∷ ds) = four_bits d ++ bits_of_digits ds

abbrev pub hexadecimal_bits : List ℕ → List ℕ
hexadecimal_bits spelling = bits_of_digits (hexadecimal_digits spelling)

-- ---- bits in octets

-- The number that the first `places` digits write, the highest first. Digits that are missing after the last one are
-- zeros.
abbrev pub filled : ℕ → ℕ → List ℕ → ℕ
filled base zero digits = 0
filled base (suc places) [] = 0
filled base (suc places) (d ∷ ds) = d * base ^ places + filled base places ds

-- All digits in octets, of which there are `octets` at most: the first has as many digits as it has places, the next one
-- those after them.
abbrev pub packed : ℕ → ℕ → ℕ → List ℕ → List ℕ
packed base places octets [] = []
packed base places zero (d ∷ ds) = []
packed base places (suc octets) (d ∷ ds) =
    filled base places (d ∷ ds) ∷ packed base places octets (drop places (d ∷ ds))

-- Eight bits to an octet, the first bit the highest (clauses 22 and 23): the last octet is filled with zero bits.
abbrev pub octets_of_bits : List ℕ → List ℕ
octets_of_bits bits = packed 2 8 (length bits) bits

-- ---- strings in double quotes

-- Up to the quote that closes it. A quote inside is written twice.
abbrev pub up_to_quote : List ℕ → List ℕ
up_to_quote [] = []
up_to_quote (o ∷ []) = []
up_to_quote (o ∷ p ∷ octets) =
    if is_quote o then (if is_quote p then o ∷ up_to_quote octets else []) else o ∷ up_to_quote (p ∷ octets)

-- what follows the quote that opens it
abbrev pub quoted : List ℕ → List ℕ
quoted [] = []
quoted (opening ∷ octets) = up_to_quote octets
