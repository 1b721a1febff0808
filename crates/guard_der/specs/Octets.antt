-- Numbers as octets, the highest first.
use Rattle.std.specs.Prelude.{ℕ, zero, suc, ◌+◌, ◌-◌, ◌*◌, ◌/◌, ◌%◌, ℤ, pos, negsuc, List, [], ◌∷◌, ◌++◌, map, fold, nat_lt, if◌then◌else◌}

-- The fewest digits of n to a base: n alone below the limit, else the digits of n / base and then n % base.
-- There are at most so many digits before the last one.
unfoldable pub fewest : ℕ → ℕ → ℕ → ℕ → List ℕ
fewest base limit zero n = n ∷ []
fewest base limit (suc more) n = if nat_lt n limit then n ∷ [] else fewest base limit more (n / base) ++ (n % base) ∷ []

-- the number that octets spell, the highest first
abbrev pub big_endian : List ℕ → ℕ
big_endian os = fold (λ n o. n * 256 + o) 0 os

-- the least octets of n, at least one and at most 16 (X.690 8.1.3.5, 10.1)
unfoldable pub unsigned_octets : ℕ → List ℕ
unsigned_octets n = fewest 256 256 15 n

-- The least octets of a number in two's complement, at least one and at most 16 (X.690 8.3).
-- The first octet of a number from 0 on is below 128. Those of -1 - n are those of n with each bit turned over.
unfoldable pub signed_octets : ℤ → List ℕ
signed_octets (pos n) = fewest 256 128 15 n
signed_octets (negsuc n) = map (λ octet. 255 - octet) (fewest 256 128 15 n)

-- The least octets of n to the base 128, at most 19. Bit 8 is set on each but the last (X.690 8.1.2.4.2).
unfoldable pub base_128 : ℕ → List ℕ
base_128 n = if nat_lt n 128 then n ∷ [] else map (λ digit. 128 + digit) (fewest 128 128 17 (n / 128)) ++ (n % 128) ∷ []

-- each bit turned over
abbrev pub turned : List ℕ → List ℕ
turned os = map (λ o. 255 - o) os

-- The number that octets spell in two's complement: bit 8 of the first is the sign (X.690 8.3.3).
unfoldable pub twos_complement : List ℕ → ℤ
twos_complement [] = pos 0
twos_complement (o ∷ os) = if nat_lt o 128 then pos (big_endian (o ∷ os)) else negsuc (big_endian (turned (o ∷ os)))
