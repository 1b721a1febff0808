-- The limits of this profile on types and numbers.
use Rattle.std.specs.Prelude.{ℕ, ◌^◌, ℤ, pos, negsuc, Bool, nat_lt}

-- the most components of a SEQUENCE or SET, and the most alternatives of a CHOICE
abbrev pub most_components : ℕ
most_components = 64

-- the greatest nesting of a type: its number of tags, one more for a CHOICE, plus the greatest nesting of a part
abbrev pub deepest_nesting : ℕ
deepest_nesting = 32

-- the greatest number of a tag within its class: 2^28-1, four base-128 octets
abbrev pub greatest_tag_number : ℕ
greatest_tag_number = 268435455

-- the numbers that an INTEGER and an ENUMERATED may have: -2^127 to 2^127-1
abbrev pub fits_128_bits : ℤ → Bool
fits_128_bits (pos n) = nat_lt n (2 ^ 127)
fits_128_bits (negsuc n) = nat_lt n (2 ^ 127)

-- the greatest place of a named bit, from 0 (X.680 22.4)
abbrev pub greatest_bit : ℕ
greatest_bit = 65535
