-- Which octets spell a number at all: those of `signed_octets` and `base_128` are the shortest of them.
use Rattle.std.specs.Prelude.{◌≡◌, ◌≢◌, ℕ, ◌+◌, ◌*◌, ◌%◌, ℤ, Bool, false, ◌&&◌, List, [], ◌∷◌, fold, nat_lt, nat_le, IsTrue}
use Rattle.guard_der.specs.Octets.{twos_complement}
use Rattle.guard_der.specs.Fits.{all_below}

-- One or more octets whose value in two's complement is the integer (X.690 8.3.1, 8.3.3).
pub record SpellInteger (z : ℤ) (octets : List ℕ) : Type 0 where
  pub each : IsTrue (all_below 256 octets)
  pub some : octets ≢ []
  pub value : twos_complement octets ≡ z

-- One or more octets, bit 8 set on each but the last (X.690 8.19.2).
abbrev pub is_series : List ℕ → Bool
is_series [] = false
is_series (o ∷ []) = nat_lt o 128
is_series (o ∷ p ∷ os) = nat_le 128 o && is_series (p ∷ os)

-- the number to the base 128 whose digits are the lower seven bits of each octet, the highest first (X.690 8.19.2)
abbrev pub base_128_value : List ℕ → ℕ
base_128_value os = fold (λ n o. n * 128 + o % 128) 0 os

-- The octets of one subidentifier whose value is the number.
pub record SpellSubidentifier (n : ℕ) (octets : List ℕ) : Type 0 where
  pub each : IsTrue (all_below 256 octets)
  pub series : IsTrue (is_series octets)
  pub value : base_128_value octets ≡ n
