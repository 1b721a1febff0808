-- What comes after the octets at the front.
use Rattle.std.proofs.Common.{◌≡◌, ◌+◌, ℕ, List, ◌++◌, true, false, take, drop, length, Option, Some, None, Bor, MatchOption}
use Rattle.std.specs.Prelude.{IfSome, bytes_eq}
use Rattle.std.proofs.lemmas.Bool.Decides.{Decides-eqb}
use Rattle.std.proofs.lemmas.Slice.Eq.{strip_prefix_is}

pub comes_after : (octets front : List ℕ) (found : Option (Bor (List ℕ)))
    → MatchOption found (bytes_eq (take (length front) octets) front ≡ false)
    (λ rest. (bytes_eq (take (length front) octets) front ≡ true) × (rest.now ≡ drop (length front) octets) × (length rest.now + length front ≡ length octets))
    → IfSome found (λ rest. octets ≡ front ++ rest.now)
comes_after octets front None stripped = tt
comes_after octets front (Some rest) stripped = strip_prefix_is Decides-eqb octets front (Some rest) stripped
