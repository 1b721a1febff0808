-- Texts of ASCII are UTF-8.
use Rattle.std.proofs.Common.{◌≡◌, ℕ, ◌<◌, Bool, true, List, [], ◌∷◌, IsUtf8, subst, nat_lt, arith}
use Rattle.std.specs.List.{list_all}
use Rattle.std.proofs.lemmas.Bool.{and_parts}
use Rattle.std.proofs.lemmas.Bool.Decides.{nat_tests}
use Rattle.std.proofs.lemmas.Str.{IsUtf8-append, IsUtf8-nil, IsUtf8-encode, encode_ascii}
use Rattle.std.proofs.Math.Utf8.{low_scalar}

abbrev pub is_ascii : ℕ → Bool
is_ascii octet = nat_lt octet 128

abbrev pub are_ascii : List ℕ → Bool
are_ascii octets = list_all is_ascii octets

below : (c : ℕ) → is_ascii c ≡ true → c < 128
below c h = grind (arith, nat_tests)

pub one_ascii : (c : ℕ) → is_ascii c ≡ true → IsUtf8 (c ∷ [])
one_ascii c h =
    let lt : c < 128 = below c h in
    subst IsUtf8 (encode_ascii c lt) (IsUtf8-encode c (low_scalar c (omega (arith, lt))))

pub ascii_text : (octets : List ℕ) → are_ascii octets ≡ true → IsUtf8 octets
ascii_text [] h = IsUtf8-nil
ascii_text (c ∷ cs) h =
    let p = and_parts (is_ascii c) (are_ascii cs) h in
    IsUtf8-append (c ∷ []) cs (one_ascii c p.0) (ascii_text cs p.1)
