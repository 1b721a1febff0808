-- The alphabets of the character strings (X.680 clause 41), by the codes of their characters.
use Rattle.std.specs.Prelude.{ℕ, Bool, true, ◌&&◌, ◌||◌, List, [], ◌∷◌, nat_eq, nat_lt}
use Rattle.std.specs.Char.{is_ascii_alphabetic, is_ascii_digit}
use Rattle.std.specs.Int.{is_in_range}
use Rattle.std.specs.Str.{all_scalars}
use Rattle.guard_model.specs.declared.ty.CharKind.{CharKind}
use Rattle.guard_model.specs.declared.ty.CharKind.TheVariants.{Numeric, Printable, Ia5, Visible, Utf8}

-- space and ' ( ) + , - . / : = ?
abbrev pub is_printable_mark : ℕ → Bool
is_printable_mark c =
    nat_eq c 32 || is_in_range 39 41 c || is_in_range 43 47 c || nat_eq c 58 || nat_eq c 61 || nat_eq c 63

-- A character of UTF8String is any of Unicode.
abbrev pub is_character : CharKind → ℕ → Bool
is_character Numeric c = nat_eq c 32 || is_ascii_digit c
is_character Printable c = is_ascii_digit c || is_ascii_alphabetic c || is_printable_mark c
is_character Ia5 c = nat_lt c 128
is_character Visible c = is_in_range 32 126 c
is_character Utf8 c = true

abbrev pub all_characters : CharKind → List ℕ → Bool
all_characters k [] = true
all_characters k (c ∷ cs) = is_character k c && all_characters k cs

-- the texts of a kind, by their codes
abbrev pub fits_characters : CharKind → List ℕ → Bool
fits_characters Numeric cs = all_characters Numeric cs
fits_characters Printable cs = all_characters Printable cs
fits_characters Ia5 cs = all_characters Ia5 cs
fits_characters Visible cs = all_characters Visible cs
fits_characters Utf8 cs = all_scalars cs
