-- How strings of bits and octets are written (X.680 clauses 22 and 23).
use Rattle.std.specs.Prelude.{ℕ, zero, suc, ◌+◌, ◌-◌, ◌/◌, ◌%◌, ℤ, pos, Bool, true, ◌&&◌, List, [], ◌∷◌, ◌++◌, codes}
use Rattle.std.specs.Prelude.{flat_map, length, map, nat_lt, take, Option, Some, None, if◌then◌else◌}
use Rattle.std.specs.Ordering.{int_eq}
use Rattle.std.specs.Option.{is_some}
use Rattle.guard_model.specs.AbstractType.{NamedNumber}
use Rattle.guard_report.specs.declared.layout.Layout.TheVariants.{Line}
use Rattle.guard_report.specs.Layouts.{in_braces}
use Rattle.guard_report.specs.Text.{name_or_number}

-- 0 to 9, then the capitals from A on
abbrev pub digit : ℕ → ℕ
digit n = if nat_lt n 10 then 48 + n else 55 + n

-- two hexadecimal digits for an octet
abbrev pub two_digits : ℕ → List ℕ
two_digits octet = digit (octet / 16) ∷ digit (octet % 16) ∷ []

-- 'AB'H (12.12)
abbrev pub hexadecimal : List ℕ → List ℕ
hexadecimal octets = codes "'" ++ flat_map two_digits octets ++ codes "'H"

-- ---- bits

-- the first bit is the highest
abbrev pub eight_bits : ℕ → List ℕ
eight_bits octet =
    octet / 128 ∷ octet / 64 % 2 ∷ octet / 32 % 2 ∷ octet / 16 % 2
    ∷ octet / 8 % 2 ∷ octet / 4 % 2 ∷ octet / 2 % 2 ∷ octet % 2 ∷ []

-- but for the last ones, which are unused
abbrev pub without_last : ℕ → List ℕ → List ℕ
without_last unused bits = take (length bits - unused) bits

abbrev pub bits_of : List ℕ → ℕ → List ℕ
bits_of octets unused = without_last unused (flat_map eight_bits octets)

abbrev pub bit_digit : ℕ → ℕ
bit_digit zero = 48
bit_digit (suc b) = 49

-- '0101'B (12.10)
abbrev pub binary : List ℕ → List ℕ
binary bits = codes "'" ++ map bit_digit bits ++ codes "'B"

-- in hexadecimal where the bits fill their octets
abbrev pub bits_as_digits : List ℕ → ℕ → List ℕ
bits_as_digits octets zero = hexadecimal octets
bits_as_digits octets (suc unused) = binary (bits_of octets (suc unused))

-- ---- named bits

-- the first name of this number
abbrev pub name_of : List NamedNumber → ℤ → Option (List ℕ)
name_of [] z = None
name_of (n ∷ ns) z = if int_eq n.number z then Some n.name else name_of ns z

-- Each bit that is one has a name; the first of these bits is bit i.
abbrev pub are_named : List NamedNumber → ℕ → List ℕ → Bool
are_named names i [] = true
are_named names i (zero ∷ bits) = are_named names (suc i) bits
are_named names i (suc b ∷ bits) = is_some (name_of names (pos i)) && are_named names (suc i) bits

-- the names of the bits that are one
abbrev pub names_of_ones : List NamedNumber → ℕ → List ℕ → List (List ℕ)
names_of_ones names i [] = []
names_of_ones names i (zero ∷ bits) = names_of_ones names (suc i) bits
names_of_ones names i (suc b ∷ bits) = name_or_number (name_of names (pos i)) i ∷ names_of_ones names (suc i) bits

-- {a, b} where the type names bits, and all that are one (22.4); else in digits
abbrev pub bits_text : List NamedNumber → List ℕ → ℕ → List ℕ
bits_text [] octets unused = bits_as_digits octets unused
bits_text (n ∷ ns) octets unused =
    if are_named (n ∷ ns) 0 (bits_of octets unused)
    then in_braces Line (names_of_ones (n ∷ ns) 0 (bits_of octets unused))
    else bits_as_digits octets unused
