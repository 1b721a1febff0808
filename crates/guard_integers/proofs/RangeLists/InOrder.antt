-- Lists of ranges that are apart: where the next one begins, and that nothing is held before the first.
use Rattle.std.proofs.Common.{rules, arith, ◌≡◌, ℤ, pos, ◌+ℤ◌, false, ◌||◌, IsTrue, List, [], ◌∷◌, ◌++◌, refl}
use Rattle.std.proofs.lemmas.Int.{ints}
use Rattle.std.specs.Int.Signed.{le_z}
use Rattle.guard_integers.specs.declared.ranges.Range.{Range}
use Rattle.guard_integers.specs.Ranges.{is_between, one_holds, begin_after, are_apart}
use Rattle.guard_integers.specs.inside.Computing.{range_of}

pub holds_append : (rs ss : List Range) (x : ℤ) → one_holds (rs ++ ss) x ≡ one_holds rs x || one_holds ss x
holds_append [] ss x = refl
holds_append (r ∷ rs) ss x = let ih = holds_append rs ss x in grind rules

pub rest_apart : (r : Range) (rs : List Range) → IsTrue (are_apart (r ∷ rs)) → IsTrue (are_apart rs)
rest_apart r rs apart = grind rules

pub next_after : (r : Range) (rs : List Range) → IsTrue (are_apart (r ∷ rs)) → IsTrue (begin_after r.high rs)
next_after r rs apart = grind rules

pub is_held : (r : Range) (rs : List Range) → IsTrue (are_apart (r ∷ rs)) → IsTrue (le_z r.low r.high)
is_held r rs apart = grind rules

-- nothing is held up to the integer after which a list begins
pub none_before : (n : ℤ) (rs : List Range) (x : ℤ) → IsTrue (begin_after n rs) → IsTrue (are_apart rs) → IsTrue (le_z x (n +ℤ pos 1)) → one_holds rs x ≡ false
none_before n [] x after apart below = refl
none_before n (r ∷ rs) x after apart below =
    let further = next_after r rs apart in
    let rest = rest_apart r rs apart in
    let lower : IsTrue (le_z x (r.high +ℤ pos 1)) = grind (arith, ints) in
    let ih = none_before r.high rs x further rest lower in
    let outside : is_between r.low r.high x ≡ false = grind (arith, ints) in
    grind rules

-- what begins after an integer begins after each smaller one
pub begin_lower : (m n : ℤ) (rs : List Range) → IsTrue (le_z m n) → IsTrue (begin_after n rs) → IsTrue (begin_after m rs)
begin_lower m n [] lower after = after
begin_lower m n (r ∷ rs) lower after = grind (arith, ints)

-- of apart ranges the rest begins after what the first begins after
pub rest_after : (n : ℤ) (r : Range) (rs : List Range) → IsTrue (begin_after n (r ∷ rs)) → IsTrue (are_apart (r ∷ rs)) → IsTrue (begin_after n rs)
rest_after n r rs after apart =
    let further = next_after r rs apart in
    let lower : IsTrue (le_z n r.high) = grind (arith, ints) in
    begin_lower n r.high rs lower further

-- one range before apart ones
pub one_before : (low high : ℤ) (gs : List Range) → IsTrue (le_z low high) → IsTrue (begin_after high gs) → IsTrue (are_apart gs) → IsTrue (are_apart (range_of low high ∷ gs))
one_before low high gs held after apart = grind rules
