-- The last range that begins by an integer is the one that may hold it.
use Rattle.std.proofs.Common.{rules, arith, ◌≡◌, ℕ, zero, suc, ◌-◌, ◌≤◌, ◌<◌, ℤ, pos, ◌+ℤ◌, true, false, Bool, ◌&&◌, ◌||◌, IsTrue, List, [], ◌∷◌, length, refl, subst, ap, sym, ◌∙◌, slice_index_or}
use Rattle.std.proofs.lemmas.Int.{ints}
use Rattle.std.specs.Int.Signed.{lt_z, le_z}
use Rattle.std.specs.List.{AllWithin}
use Rattle.std.specs.List.Sorted.{IsPartitionedBy}
use Rattle.guard_integers.specs.declared.ranges.Range.{Range}
use Rattle.guard_integers.specs.inside.Computing.{range_of}
use Rattle.guard_integers.specs.Ranges.{is_between, one_holds, begin_after, are_apart}
use Rattle.guard_integers.proofs.RangeLists.InOrder.{rest_apart, next_after, is_held, rest_after}

-- each range of a list begins after what its first one begins after
pub each_after : (n : ℤ) (rs : List Range) (j : ℕ) (d : Range) → IsTrue (begin_after n rs) → IsTrue (are_apart rs) → j < length rs → IsTrue (lt_z (n +ℤ pos 1) (slice_index_or rs j d).low)
each_after n [] j d after apart within = absurd (search (rules, arith))
each_after n (r ∷ rs) zero d after apart within = after
each_after n (r ∷ rs) (suc j) d after apart within = each_after n rs j d (rest_after n r rs after apart) (rest_apart r rs apart) (omega arith)

pub lower_begins : (r s : Range) (x : ℤ) → IsTrue (le_z r.low r.high) → IsTrue (lt_z (r.high +ℤ pos 1) s.low) → le_z s.low x ≡ true → le_z r.low x ≡ true
lower_begins r s x held after begins = grind (arith, ints)

pub begins_before : (rs : List Range) (x : ℤ) → IsTrue (are_apart rs) → (i j : ℕ) (d : Range) → i ≤ j → j < length rs → le_z (slice_index_or rs j d).low x ≡ true → le_z (slice_index_or rs i d).low x ≡ true
begins_before [] x apart i j d before within begins = absurd (search (rules, arith))
begins_before (r ∷ rs) x apart zero zero d before within begins = begins
begins_before (r ∷ rs) x apart zero (suc j) d before within begins =
    lower_begins r (slice_index_or rs j d) x (is_held r rs apart) (each_after r.high rs j d (next_after r rs apart) (rest_apart r rs apart) (omega arith)) begins
begins_before (r ∷ rs) x apart (suc i) zero d before within begins = absurd (search (rules, arith))
begins_before (r ∷ rs) x apart (suc i) (suc j) d before within begins = begins_before rs x (rest_apart r rs apart) i j d (omega arith) (omega arith) begins

-- where a later range begins by an integer, each earlier one does
pub begins_in_order : (rs : List Range) (x : ℤ) → IsTrue (are_apart rs) → IsPartitionedBy (λ r. le_z r.low x) rs
begins_in_order rs x apart = λ i j d before within begins. begins_before rs x apart i j d before within begins

pub not_begun : (r : Range) (x : ℤ) → le_z r.low x ≡ false → is_between r.low r.high x ≡ false
not_begun r x later = ap (λ b. b && le_z x r.high) later

pub none_begun : (rs : List Range) (x : ℤ) (d : Range) → AllWithin (λ r. le_z r.low x ≡ false) rs 0 (length rs) → one_holds rs x ≡ false
none_begun [] x d later = refl
none_begun (r ∷ rs) x d later =
    ap (λ b. b || one_holds rs x) (not_begun r x (later 0 d (omega arith) (omega arith))) ∙ none_begun rs x d (λ k e from to. later (suc k) e (omega arith) (omega arith))

pub is_over : (r s : Range) (x : ℤ) → IsTrue (lt_z (r.high +ℤ pos 1) s.low) → le_z s.low x ≡ true → is_between r.low r.high x ≡ false
is_over r s x after begins = grind (arith, ints)

pub or_none : (a b : Bool) → b ≡ false → a || b ≡ a
or_none true b none = refl
or_none false b none = none

-- the last range that begins by an integer holds it where it reaches it, and no other range does
pub last_begun : (rs : List Range) (k : ℕ) (x : ℤ) (d : Range) → IsTrue (are_apart rs) → AllWithin (λ r. le_z r.low x ≡ true) rs 0 (suc k)
    → AllWithin (λ r. le_z r.low x ≡ false) rs (suc k) (length rs) → k < length rs → one_holds rs x ≡ le_z x (slice_index_or rs k d).high
last_begun [] k x d apart begun later there = absurd (search (rules, arith))
last_begun (r ∷ rs) zero x d apart begun later there =
    or_none (is_between r.low r.high x) (one_holds rs x) (none_begun rs x d (λ k e from to. later (suc k) e (omega arith) (omega arith)))
    ∙ ap (λ b. b && le_z x r.high) (begun 0 d (omega arith) (omega arith))
last_begun (r ∷ rs) (suc k) x d apart begun later there =
    ap (λ b. b || one_holds rs x)
    (is_over r (slice_index_or rs 0 d) x (each_after r.high rs 0 d (next_after r rs apart) (rest_apart r rs apart) (omega arith)) (begun 1 d (omega arith) (omega arith)))
    ∙ last_begun rs k x d (rest_apart r rs apart) (λ i e from to. begun (suc i) e (omega arith) (omega arith)) (λ i e from to. later (suc i) e (omega arith) (omega arith)) (omega arith)

pub found : (rs : List Range) (k : ℕ) (x : ℤ) (d : Range) → IsTrue (are_apart rs) → AllWithin (λ r. le_z r.low x ≡ true) rs 0 k
    → AllWithin (λ r. le_z r.low x ≡ false) rs k (length rs) → k ≤ length rs → 0 < k → le_z x (slice_index_or rs (k - 1) d).high ≡ one_holds rs x
found rs zero x d apart begun later within some = absurd (search (rules, arith))
found rs (suc k) x d apart begun later within some =
    let last = last_begun rs k x d apart begun later (omega arith) in
    let before : suc k - 1 ≡ k = omega arith in
    rw before (sym last)

pub no_range : (rs : List Range) (k : ℕ) (x : ℤ) → AllWithin (λ r. le_z r.low x ≡ false) rs k (length rs) → k ≤ 0 → one_holds rs x ≡ false
no_range rs zero x later none = none_begun rs x (range_of x x) later
no_range rs (suc k) x later none = absurd (search (rules, arith))

-- the same of a number that is written in another way
pub at_number : (rs : List Range) (i j : ℕ) (begins : Bool) (y z : ℤ) → y ≡ z → AllWithin (λ r. le_z r.low y ≡ begins) rs i j → AllWithin (λ r. le_z r.low z ≡ begins) rs i j
at_number rs i j begins y z is all = subst (λ (n : ℤ). AllWithin (λ r. le_z r.low n ≡ begins) rs i j) is all
