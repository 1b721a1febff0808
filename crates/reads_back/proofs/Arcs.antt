-- Arcs of an object identifier are below the limit of 128 bits.
use Rattle.std.proofs.Common.{◌≡◌, ℕ, ◌+◌, ◌*◌, ◌^◌, ◌<◌, ◌≤◌, true, ◌&&◌, ◌||◌, List, [], ◌∷◌, refl, nat_lt, nat_le, nat_eq, arith}
use Rattle.std.proofs.lemmas.Bool.{and_parts, and_from, false≢true}
use Rattle.std.proofs.lemmas.Bool.Decides.{nat_tests}
use Rattle.guard_der.specs.Fits.{fits_arcs, fits_first_arcs, all_below}

pub all_arcs : (arcs : List ℕ) → fits_arcs arcs ≡ true → all_below (2 ^ 128) arcs ≡ true
all_arcs [] h = refl
all_arcs (x ∷ []) h = absurd (false≢true h)
all_arcs (x ∷ y ∷ arcs) h =
    let p = and_parts (fits_first_arcs x y) (all_below (2 ^ 128) arcs) h in
    let q = and_parts (nat_le x 2 && (nat_eq x 2 || nat_le y 39)) (nat_lt (40 * x + y) (2 ^ 128)) p.0 in
    let r = and_parts (nat_le x 2) (nat_eq x 2 || nat_le y 39) q.0 in
    let first : x ≤ 2 = grind (arith, nat_tests, r.0) in
    let both : 40 * x + y < 2 ^ 128 = grind (arith, nat_tests, q.1) in
    let small : x < 2 ^ 128 = omega (arith, first) in
    let second : y < 2 ^ 128 = omega (arith, both) in
    and_from _ _ (grind (arith, nat_tests, small)) (and_from _ _ (grind (arith, nat_tests, second)) p.1)
