-- How far from an integer on a list of ranges holds all integers, or none.
use Rattle.std.proofs.Common.{rules, arith, ◌≡◌, ℕ, zero, suc, ◌-◌, ◌≤◌, ◌<◌, ℤ, pos, ◌+ℤ◌, ◌≤ℤ◌, ◌<ℤ◌, true, false, Bool, ◌||◌, IsTrue, List, [], ◌∷◌, length, refl, subst, ap, sym, ◌∙◌, slice_index_or}
use Rattle.std.proofs.lemmas.Int.{ints}
use Rattle.std.specs.Int.Signed.{lt_z, le_z}
use Rattle.std.specs.List.{AllWithin}
use Rattle.guard_integers.specs.declared.ranges.Range.{Range}
use Rattle.guard_integers.specs.Ranges.{is_between, one_holds, are_apart}
use Rattle.guard_integers.proofs.RangeLists.InOrder.{rest_apart, next_after, is_held, none_before}
use Rattle.guard_integers.proofs.RangeLists.HoldingRange.{each_after, begins_before, found, no_range}

or_true : (b : Bool) → (b || true) ≡ true
or_true true = refl
or_true false = refl

-- what one of the ranges holds the list holds
pub held_by : (rs : List Range) (j : ℕ) (d : Range) (x : ℤ) → j < length rs → is_between (slice_index_or rs j d).low (slice_index_or rs j d).high x ≡ true → one_holds rs x ≡ true
held_by [] j d x within held = absurd (search (rules, arith))
held_by (r ∷ rs) zero d x within held = ap (λ b. b || one_holds rs x) held
held_by (r ∷ rs) (suc j) d x within held = ap (λ b. is_between r.low r.high x || b) (held_by rs j d x (omega arith) held) ∙ or_true (is_between r.low r.high x)

pub each_held : (rs : List Range) (j : ℕ) (d : Range) → IsTrue (are_apart rs) → j < length rs → IsTrue (le_z (slice_index_or rs j d).low (slice_index_or rs j d).high)
each_held [] j d apart within = absurd (search (rules, arith))
each_held (r ∷ rs) zero d apart within = is_held r rs apart
each_held (r ∷ rs) (suc j) d apart within = each_held rs j d (rest_apart r rs apart) (omega arith)

neither : (a b : Bool) → a ≡ false → b ≡ false → (a || b) ≡ false
neither a b first second = ap (λ c. c || b) first ∙ second

after_own : (r : Range) → is_between r.low r.high (r.high +ℤ pos 1) ≡ false
after_own r = grind (arith, ints)

after_later : (r s : Range) → IsTrue (lt_z (r.high +ℤ pos 1) s.low) → IsTrue (le_z s.low s.high) → is_between r.low r.high (s.high +ℤ pos 1) ≡ false
after_later r s after held = grind (arith, ints)

up_to_itself : (x : ℤ) → IsTrue (le_z x x)
up_to_itself x = grind (arith, ints)

-- no range holds the integer after one of them
pub none_after : (rs : List Range) (j : ℕ) (d : Range) → IsTrue (are_apart rs) → j < length rs → one_holds rs ((slice_index_or rs j d).high +ℤ pos 1) ≡ false
none_after [] j d apart within = absurd (search (rules, arith))
none_after (r ∷ rs) zero d apart within =
    neither _ _ (after_own r) (none_before r.high rs (r.high +ℤ pos 1) (next_after r rs apart) (rest_apart r rs apart) (up_to_itself (r.high +ℤ pos 1)))
none_after (r ∷ rs) (suc j) d apart within =
    let rest = rest_apart r rs apart in
    neither _ _
    (after_later r (slice_index_or rs j d) (each_after r.high rs j d (next_after r rs apart) rest (omega arith)) (each_held rs j d rest (omega arith)))
    (none_after rs j d rest (omega arith))

-- ---- up to the end of the range that holds it

within_both : (low high first x : ℤ) → le_z low first ≡ true → first ≤ℤ x → x ≤ℤ high → is_between low high x ≡ true
within_both low high first x begun from to = grind (arith, ints)

-- The last range that begins by an integer reaches it, so holds all from there to its end.
pub all_to_end : (rs : List Range) (k : ℕ) (first x : ℤ) (d : Range) → AllWithin (λ r. le_z r.low first ≡ true) rs 0 k → k ≤ length rs → 0 < k
    → first ≤ℤ x → x ≤ℤ (slice_index_or rs (k - 1) d).high → one_holds rs x ≡ true
all_to_end rs k first x d begun within some from to =
    held_by rs (k - 1) d x (omega arith)
    (within_both (slice_index_or rs (k - 1) d).low (slice_index_or rs (k - 1) d).high first x (begun (k - 1) d (omega arith) (omega arith)) from to)

-- ---- before the next range

begun_later : (low first x : ℤ) → le_z low first ≡ true → first ≤ℤ x → le_z low x ≡ true
begun_later low first x begun from = grind (arith, ints)

not_yet : (low next x : ℤ) → x <ℤ next → (le_z low x ≡ true → le_z next x ≡ true) → le_z low x ≡ false
not_yet low next x before back = grind (arith, ints)

not_reached : (high first x : ℤ) → le_z first high ≡ false → first ≤ℤ x → le_z x high ≡ false
not_reached high first x over from = grind (arith, ints)

-- Where so many ranges begin by the first, the last of which ends before it, and the next begins above x, none holds x.
pub none_between : (rs : List Range) (k : ℕ) (first x : ℤ) (d : Range) → IsTrue (are_apart rs) → k ≤ length rs → AllWithin (λ r. le_z r.low first ≡ true) rs 0 k
    → (0 < k → le_z first (slice_index_or rs (k - 1) d).high ≡ false) → AllWithin (λ r. le_z r.low x ≡ false) rs k (length rs) → first ≤ℤ x → one_holds rs x ≡ false
none_between rs zero first x d apart within begun over later from = no_range rs 0 x later (omega arith)
none_between rs (suc k) first x d apart within begun over later from =
    sym (found rs (suc k) x d apart (λ j e low high. begun_later (slice_index_or rs j e).low first x (begun j e low high) from) later within (omega arith))
    ∙ not_reached (slice_index_or rs (suc k - 1) d).high first x (over (omega arith)) from

-- what begins before a range begins before those after it
pub later_too : (rs : List Range) (k : ℕ) (x next : ℤ) → IsTrue (are_apart rs) → ((d : Range) → (slice_index_or rs k d).low ≡ next) → x <ℤ next
    → AllWithin (λ r. le_z r.low x ≡ false) rs k (length rs)
later_too rs k x next apart is before = λ j d from within.
    not_yet (slice_index_or rs j d).low next x before
    (λ begins. subst (λ (z : ℤ). le_z z x ≡ true) (is d) (begins_before rs x apart k j d from within begins))

first_within : (r : Range) → IsTrue (le_z r.low r.high) → is_between r.low r.high r.low ≡ true
first_within r held = grind (arith, ints)

-- the range at the place holds its first integer
pub holds_first : (rs : List Range) (k : ℕ) (d : Range) → IsTrue (are_apart rs) → k < length rs → one_holds rs (slice_index_or rs k d).low ≡ true
holds_first rs k d apart within = held_by rs k d (slice_index_or rs k d).low within (first_within (slice_index_or rs k d) (each_held rs k d apart within))
