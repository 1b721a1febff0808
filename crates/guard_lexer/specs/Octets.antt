-- Single octets of a text (X.680 clause 11).
use Rattle.std.specs.Prelude.{ℕ, Bool, false, List, [], ◌∷◌, ◌&&◌, ◌||◌, ◌==◌, nat_le}
use Rattle.std.specs.Char.{is_ascii_alphabetic, is_ascii_alphanumeric, is_ascii_digit, is_ascii_uppercase}

abbrev pub is_letter : ℕ → Bool
is_letter octet = is_ascii_alphabetic octet

abbrev pub is_capital : ℕ → Bool
is_capital octet = is_ascii_uppercase octet

abbrev pub is_digit : ℕ → Bool
is_digit octet = is_ascii_digit octet

abbrev pub is_letter_or_digit : ℕ → Bool
is_letter_or_digit octet = is_ascii_alphanumeric octet

abbrev pub is_hyphen : ℕ → Bool
is_hyphen octet = octet == 45

-- the quotation mark
abbrev pub is_quote : ℕ → Bool
is_quote octet = octet == 34

abbrev pub is_apostrophe : ℕ → Bool
is_apostrophe octet = octet == 39

abbrev pub is_slash : ℕ → Bool
is_slash octet = octet == 47

abbrev pub is_asterisk : ℕ → Bool
is_asterisk octet = octet == 42

abbrev pub is_line_feed : ℕ → Bool
is_line_feed octet = octet == 10

-- line feed, vertical tabulation, form feed, carriage return
abbrev pub is_line_end : ℕ → Bool
is_line_end octet = nat_le 10 octet && nat_le octet 13

-- a tabulation, a line end or a space
abbrev pub is_white_space : ℕ → Bool
is_white_space octet = (nat_le 9 octet && nat_le octet 13) || octet == 32

-- what can be between the quotes of a bit string, and of a hexadecimal string
abbrev pub is_of_bits : ℕ → Bool
is_of_bits octet = octet == 48 || octet == 49 || is_white_space octet

abbrev pub is_of_hexadecimal : ℕ → Bool
is_of_hexadecimal octet = is_digit octet || (nat_le 65 octet && nat_le octet 70) || is_white_space octet

-- the first octet passes the test, and there is one
abbrev pub begins : (ℕ → Bool) → List ℕ → Bool
begins test [] = false
begins test (octet ∷ octets) = test octet
