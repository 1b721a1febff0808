-- The gaps hold exactly what no range holds, and are apart.
use Rattle.std.proofs.Common.{rules, arith, ◌≡◌, ℤ, pos, ◌+ℤ◌, ◌-ℤ◌, true, false, Bool, ◌&&◌, ◌||◌, not, IsTrue, List, [], ◌∷◌, ◌++◌, ◌<ℤ◌, ◌≤ℤ◌, refl, ap, sym, ◌∙◌, if◌then◌else◌}
use Rattle.std.proofs.lemmas.Int.{ints, by_lt_z}
use Rattle.std.specs.Int.Signed.{lt_z, le_z}
use Rattle.guard_integers.specs.declared.ranges.Range.{Range}
use Rattle.guard_integers.specs.inside.Computing.{greatest}
use Rattle.guard_integers.specs.Ranges.{is_between, one_holds, begin_after, are_apart}
use Rattle.guard_integers.specs.inside.Computing.{before, gaps_from}
use Rattle.guard_integers.proofs.RangeLists.InOrder.{holds_append, none_before, rest_apart, next_after, is_held, one_before}

pub before_has : (low : ℤ) (r : Range) (x : ℤ) → one_holds (before low r) x ≡ le_z low x && lt_z x r.low
before_has low r x = grind (arith, ints)

-- nothing is in the gaps up to the integer from which they are looked for
pub simp_or : (a b : Bool) → b ≡ false → not (a || b) ≡ not a || false
simp_or a b none = grind rules

pub gaps_above : (n : ℤ) (rs : List Range) (x : ℤ) → IsTrue (begin_after n rs) → IsTrue (are_apart rs) → IsTrue (le_z x n) → one_holds (gaps_from (n +ℤ pos 1) rs) x ≡ false
gaps_above n [] x after apart below = grind (arith, ints)
gaps_above n (r ∷ rs) x after apart below =
    let further = next_after r rs apart in
    let rest = rest_apart r rs apart in
    let lower : IsTrue (le_z x r.high) = grind (arith, ints) in
    let ih = gaps_above r.high rs x further rest lower in
    let none = before_has (n +ℤ pos 1) r x in
    let joined = holds_append (before (n +ℤ pos 1) r) (if lt_z r.high greatest then gaps_from (r.high +ℤ pos 1) rs else []) x in
    grind (arith, ints)

-- the gaps after the first range
abbrev pub others : Range → List Range → List Range
others r rs = if lt_z r.high greatest then gaps_from (r.high +ℤ pos 1) rs else []

pub if_none : (b : Bool) (gs : List Range) (x : ℤ) → one_holds gs x ≡ false → one_holds (if b then gs else []) x ≡ false
if_none true gs x none = none
if_none false gs x none = refl

pub others_none : (r : Range) (rs : List Range) (x : ℤ) → IsTrue (are_apart (r ∷ rs)) → x ≤ℤ r.high → one_holds (others r rs) x ≡ false
others_none r rs x apart within =
    let further = next_after r rs apart in
    let rest = rest_apart r rs apart in
    let up_to : IsTrue (le_z x r.high) = grind (arith, ints) in
    if_none (lt_z r.high greatest) (gaps_from (r.high +ℤ pos 1) rs) x (gaps_above r.high rs x further rest up_to)

pub held_none : (r : Range) (rs : List Range) (x : ℤ) → IsTrue (are_apart (r ∷ rs)) → x ≤ℤ r.high → one_holds rs x ≡ false
held_none r rs x apart within =
    let further = next_after r rs apart in
    let rest = rest_apart r rs apart in
    let up_to_next : IsTrue (le_z x (r.high +ℤ pos 1)) = grind (arith, ints) in
    none_before r.high rs x further rest up_to_next

pub split_gaps : (low : ℤ) (r : Range) (rs : List Range) (x : ℤ) → one_holds (gaps_from low (r ∷ rs)) x ≡ (le_z low x && lt_z x r.low) || one_holds (others r rs) x
split_gaps low r rs x = holds_append (before low r) (others r rs) x ∙ ap (λ b. b || one_holds (others r rs) x) (before_has low r x)

pub outside_before : (low : ℤ) (r : Range) (x : ℤ) → IsTrue (le_z low x) → x ≤ℤ r.high → (le_z low x && lt_z x r.low) ≡ not (is_between r.low r.high x)
outside_before low r x above within = grind (arith, ints)

-- up to the end of the first range, the gaps are what lies before it
pub gaps_before : (low : ℤ) (r : Range) (rs : List Range) (x : ℤ) → IsTrue (are_apart (r ∷ rs)) → IsTrue (le_z low x) → x ≤ℤ r.high → one_holds (gaps_from low (r ∷ rs)) x ≡ not (one_holds (r ∷ rs) x)
gaps_before low r rs x apart above within =
    let split = split_gaps low r rs x in
    let first = outside_before low r x above within in
    let none = held_none r rs x apart within in
    let none_later = others_none r rs x apart within in
    let right : not (is_between r.low r.high x || one_holds rs x) ≡ not (is_between r.low r.high x) || false = simp_or (is_between r.low r.high x) (one_holds rs x) none in
    split ∙ ap (λ b. b || one_holds (others r rs) x) first ∙ ap (λ b. not (is_between r.low r.high x) || b) none_later ∙ sym right

pub others_on : (r : Range) (rs : List Range) (x : ℤ) → r.high <ℤ x → IsTrue (le_z x greatest) → one_holds (others r rs) x ≡ one_holds (gaps_from (r.high +ℤ pos 1) rs) x
others_on r rs x later number =
    let on : lt_z r.high greatest ≡ true = grind (arith, ints) in
    ap (λ b. one_holds (if b then gaps_from (r.high +ℤ pos 1) rs else []) x) on

-- after it they are the gaps of the others
pub gaps_after : (low : ℤ) (r : Range) (rs : List Range) (x : ℤ) → IsTrue (are_apart (r ∷ rs)) → r.high <ℤ x → IsTrue (le_z x greatest)
    → one_holds (gaps_from (r.high +ℤ pos 1) rs) x ≡ not (one_holds rs x) → one_holds (gaps_from low (r ∷ rs)) x ≡ not (one_holds (r ∷ rs) x)
gaps_after low r rs x apart later number rest =
    let held = is_held r rs apart in
    let outside : is_between r.low r.high x ≡ false = grind (arith, ints) in
    let not_before : (le_z low x && lt_z x r.low) ≡ false = grind (arith, ints) in
    split_gaps low r rs x ∙ ap (λ b. b || one_holds (others r rs) x) not_before ∙ others_on r rs x later number ∙ rest ∙ sym (ap (λ b. not (b || one_holds rs x)) outside)

-- from there on the gaps hold exactly what no range holds
pub gaps_have : (low : ℤ) (rs : List Range) (x : ℤ) → IsTrue (are_apart rs) → IsTrue (le_z low x) → IsTrue (le_z x greatest) → one_holds (gaps_from low rs) x ≡ not (one_holds rs x)
gaps_have low [] x apart above number = grind (arith, ints)
gaps_have low (r ∷ rs) x apart above number =
    let rest = rest_apart r rs apart in
    by_lt_z r.high x
    (λ later. let from : IsTrue (le_z (r.high +ℤ pos 1) x) = grind (arith, ints) in gaps_after low r rs x apart later number (gaps_have (r.high +ℤ pos 1) rs x rest from number))
    (λ within. gaps_before low r rs x apart above within)

-- the gaps begin after each integer that is below the one from which they are looked for
pub gaps_begin : (m n : ℤ) (rs : List Range) → IsTrue (lt_z m n) → IsTrue (begin_after n rs) → IsTrue (begin_after m (gaps_from (n +ℤ pos 1) rs))
gaps_begin m n [] lower after = grind (arith, ints)
gaps_begin m n (r ∷ rs) lower after = grind (arith, ints)

pub before_apart : (low : ℤ) (r : Range) (gs : List Range) → IsTrue (begin_after (r.low -ℤ pos 1) gs) → IsTrue (are_apart gs) → IsTrue (are_apart (before low r ++ gs))
before_apart low r gs after apart =
    by_lt_z low r.low
    (λ on. let held : IsTrue (le_z low (r.low -ℤ pos 1)) = grind (arith, ints) in
    let all = one_before low (r.low -ℤ pos 1) gs held after apart in
    let test : lt_z low r.low ≡ true = grind (arith, ints) in
    rw test all)
    (λ off. let test : lt_z low r.low ≡ false = grind (arith, ints) in rw test apart)

pub others_begin : (m : ℤ) (r : Range) (rs : List Range) → IsTrue (lt_z m r.high) → IsTrue (begin_after r.high rs) → IsTrue (begin_after m (others r rs))
others_begin m r rs lower further =
    by_lt_z r.high greatest
    (λ on. let test : lt_z r.high greatest ≡ true = grind (arith, ints) in rw test (gaps_begin m r.high rs lower further))
    (λ off. let test : lt_z r.high greatest ≡ false = grind (arith, ints) in rw test refl)

pub gaps_apart : (low : ℤ) (rs : List Range) → IsTrue (are_apart rs) → IsTrue (le_z low greatest) → IsTrue (are_apart (gaps_from low rs))
gaps_apart low [] apart number = grind (arith, ints)
gaps_apart low (r ∷ rs) apart number =
    let further = next_after r rs apart in
    let rest = rest_apart r rs apart in
    let held = is_held r rs apart in
    let lower : IsTrue (lt_z (r.low -ℤ pos 1) r.high) = grind (arith, ints) in
    before_apart low r (others r rs) (others_begin (r.low -ℤ pos 1) r rs lower further)
    (by_lt_z r.high greatest
    (λ on. let test : lt_z r.high greatest ≡ true = grind (arith, ints) in
    let next : IsTrue (le_z (r.high +ℤ pos 1) greatest) = grind (arith, ints) in
    rw test (gaps_apart (r.high +ℤ pos 1) rs rest next))
    (λ off. let test : lt_z r.high greatest ≡ false = grind (arith, ints) in rw test refl))
