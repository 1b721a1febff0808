-- Where the first octet of a kind is.
use Rattle.std.proofs.Common.{◌≡◌, ℕ, ◌≤◌, Bool, true, false, cond, List, length, nat_lt, refl, arith}
use Rattle.std.specs.Prelude.{Some, None, position, unwrap_or}
use Rattle.std.specs.List.{position_or_len}
use Rattle.std.proofs.lemmas.Bool.{ltb-false}
use Rattle.std.proofs.lemmas.List.Sums.{prefix_len-le-length}

by_place : (t : Bool) (n most : ℕ) → (t ≡ false → most ≡ n) → unwrap_or (cond t (Some n) None) most ≡ n
by_place true n most f = refl
by_place false n most f = f refl

pub place_within : (p : ℕ → Bool) (xs : List ℕ) → position_or_len p xs ≤ length xs
place_within p xs = prefix_len-le-length _ xs

pub place_is : (p : ℕ → Bool) (xs : List ℕ) → unwrap_or (position p xs) (length xs) ≡ position_or_len p xs
place_is p xs =
    let n = position_or_len p xs in
    let within = place_within p xs in
    by_place (nat_lt n (length xs)) n (length xs) (λ e. let past = ltb-false n (length xs) e in omega (arith, past, within))
