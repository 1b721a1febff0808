-- The common parts hold exactly what both lists hold, and are apart.
use Rattle.std.proofs.Common.{rules, arith, ◌≡◌, ℤ, pos, ◌+ℤ◌, ◌<ℤ◌, ◌≤ℤ◌, true, false, Bool, ◌&&◌, ◌||◌, IsTrue, List, [], ◌∷◌, ◌++◌, refl, ap, sym, ◌∙◌, ℕ, ◌≤◌, length, drop}
use Rattle.std.proofs.lemmas.Int.{ints, clamps, by_lt_z}
use Rattle.std.proofs.lemmas.List.{append-nil}
use Rattle.std.proofs.Math.ListN.{drop_of_length-le}
use Rattle.std.specs.Int.{int_max, int_min}
use Rattle.std.specs.Int.Signed.{lt_z, le_z}
use Rattle.guard_integers.specs.declared.ranges.Range.{Range}
use Rattle.guard_integers.specs.Ranges.{is_between, one_holds, begin_after, are_apart}
use Rattle.guard_integers.specs.inside.Computing.{range_of, meeting, overlap, sweep, common_of}
use Rattle.guard_integers.proofs.RangeLists.InOrder.{holds_append, none_before, rest_apart, next_after, rest_after, one_before}

pub meeting_has : (low high x : ℤ) → one_holds (meeting low high) x ≡ is_between low high x
meeting_has low high x = grind (arith, ints)

pub both_ends : (r s : Range) (x : ℤ) → is_between (int_max r.low s.low) (int_min r.high s.high) x ≡ is_between r.low r.high x && is_between s.low s.high x
both_ends r s x = grind (arith, ints, clamps)

pub overlap_has : (r s : Range) (x : ℤ) → one_holds (overlap r s) x ≡ is_between r.low r.high x && is_between s.low s.high x
overlap_has r s x =
    let met = meeting_has (int_max r.low s.low) (int_min r.high s.high) x in
    let ends = both_ends r s x in
    grind rules

-- the range ends first: nothing after the other one is in it
pub first_alone : (r s : Range) (ss : List Range) (x : ℤ) → IsTrue (are_apart (s ∷ ss)) → r.high <ℤ s.high → is_between r.low r.high x && one_holds ss x ≡ false
first_alone r s ss x apart ends =
    let further = next_after s ss apart in
    let rest = rest_apart s ss apart in
    by_lt_z r.high x
    (λ above. let out : is_between r.low r.high x ≡ false = grind (arith, ints) in grind rules)
    (λ within. let low : IsTrue (le_z x (s.high +ℤ pos 1)) = grind (arith, ints) in let none = none_before s.high ss x further rest low in grind rules)

pub second_alone : (r s : Range) (rs : List Range) (x : ℤ) → IsTrue (are_apart (r ∷ rs)) → s.high ≤ℤ r.high → one_holds rs x && is_between s.low s.high x ≡ false
second_alone r s rs x apart ends =
    let further = next_after r rs apart in
    let rest = rest_apart r rs apart in
    by_lt_z s.high x
    (λ above. let out : is_between s.low s.high x ≡ false = grind (arith, ints) in grind rules)
    (λ within. let low : IsTrue (le_z x (r.high +ℤ pos 1)) = grind (arith, ints) in let none = none_before r.high rs x further rest low in grind rules)

pub and_none : (b : Bool) → b && false ≡ false
and_none true = refl
and_none false = refl

-- what is in the first range or after it, and in the second one or after it
pub distribute_first : (r rs s ss : Bool) → (r && ss) ≡ false → ((r && s) || (rs && (s || ss))) ≡ ((r || rs) && (s || ss))
distribute_first r rs s ss alone = grind rules

pub distribute_second : (r rs s ss : Bool) → (rs && s) ≡ false → ((r && s) || ((r || rs) && ss)) ≡ ((r || rs) && (s || ss))
distribute_second r rs s ss alone = grind rules

pub sweep_has : (next : List Range → List Range) (r : Range) (rs ss : List Range) (x : ℤ)
    → ((others : List Range) → IsTrue (are_apart others) → one_holds (next others) x ≡ one_holds rs x && one_holds others x)
    → IsTrue (are_apart (r ∷ rs)) → IsTrue (are_apart ss) → one_holds (sweep next r ss) x ≡ one_holds (r ∷ rs) x && one_holds ss x
sweep_has next r rs [] x has first second = sym (and_none (one_holds (r ∷ rs) x))
sweep_has next r rs (s ∷ ss) x has first second =
    let rest = rest_apart s ss second in
    by_lt_z r.high s.high
    (λ ends. let test : lt_z r.high s.high ≡ true = grind (arith, ints) in
    rw test (holds_append (overlap r s) (next (s ∷ ss)) x ∙ ap (λ b. b || one_holds (next (s ∷ ss)) x) (overlap_has r s x) ∙ ap (λ b. (is_between r.low r.high x && is_between s.low s.high x) || b) (has (s ∷ ss) second)
    ∙ distribute_first (is_between r.low r.high x) (one_holds rs x) (is_between s.low s.high x) (one_holds ss x) (first_alone r s ss x second ends)))
    (λ not_yet. let test : lt_z r.high s.high ≡ false = grind (arith, ints) in
    rw test (holds_append (overlap r s) (sweep next r ss) x ∙ ap (λ b. b || one_holds (sweep next r ss) x) (overlap_has r s x) ∙ ap (λ b. (is_between r.low r.high x && is_between s.low s.high x) || b) (sweep_has next r rs ss x has first rest)
    ∙ distribute_second (is_between r.low r.high x) (one_holds rs x) (is_between s.low s.high x) (one_holds ss x) (second_alone r s rs x first not_yet)))

pub common_has : (first second : List Range) (x : ℤ) → IsTrue (are_apart first) → IsTrue (are_apart second) → one_holds (common_of first second) x ≡ one_holds first x && one_holds second x
common_has [] second x apart also = refl
common_has (r ∷ rs) second x apart also =
    let rest = rest_apart r rs apart in
    sweep_has (common_of rs) r rs second x (λ others o. common_has rs others x rest o) apart also

-- ---- apart

pub meeting_begins : (n low high : ℤ) (gs : List Range) → IsTrue (lt_z (n +ℤ pos 1) low) → IsTrue (begin_after n gs) → IsTrue (begin_after n (meeting low high ++ gs))
meeting_begins n low high gs above after = grind (arith, ints)

pub meeting_apart : (low high : ℤ) (gs : List Range) → IsTrue (begin_after high gs) → IsTrue (are_apart gs) → IsTrue (are_apart (meeting low high ++ gs))
meeting_apart low high gs after apart =
    by_lt_z high low
    (λ none. let test : le_z low high ≡ false = grind (arith, ints) in rw test apart)
    (λ some. let test : le_z low high ≡ true = grind (arith, ints) in
    let all : IsTrue (are_apart (range_of low high ∷ gs)) = one_before low high gs test after apart in
    rw test all)

pub max_first : (n : ℤ) (r s : Range) → IsTrue (lt_z n r.low) → IsTrue (lt_z n (int_max r.low s.low))
max_first n r s above = grind (arith, ints, clamps)

pub max_second : (n : ℤ) (r s : Range) → IsTrue (lt_z n s.low) → IsTrue (lt_z n (int_max r.low s.low))
max_second n r s above = grind (arith, ints, clamps)

pub min_first : (r s : Range) → r.high <ℤ s.high → int_min r.high s.high ≡ r.high
min_first r s ends = grind (arith, ints, clamps)

pub min_second : (r s : Range) → s.high ≤ℤ r.high → int_min r.high s.high ≡ s.high
min_second r s ends = grind (arith, ints, clamps)

-- the common parts begin after what the first list begins after
pub sweep_first : (next : List Range → List Range) (n : ℤ) (r : Range) (rs ss : List Range)
    → ((others : List Range) → IsTrue (begin_after n (next others))) → IsTrue (lt_z (n +ℤ pos 1) r.low) → IsTrue (begin_after n (sweep next r ss))
sweep_first next n r rs [] later above = refl
sweep_first next n r rs (s ∷ ss) later above =
    by_lt_z r.high s.high
    (λ ends. let test : lt_z r.high s.high ≡ true = grind (arith, ints) in
    rw test (meeting_begins n (int_max r.low s.low) (int_min r.high s.high) (next (s ∷ ss)) (max_first (n +ℤ pos 1) r s above) (later (s ∷ ss))))
    (λ not_yet. let test : lt_z r.high s.high ≡ false = grind (arith, ints) in
    rw test (meeting_begins n (int_max r.low s.low) (int_min r.high s.high) (sweep next r ss) (max_first (n +ℤ pos 1) r s above) (sweep_first next n r rs ss later above)))

pub common_first : (n : ℤ) (first second : List Range) → IsTrue (are_apart first) → IsTrue (begin_after n first) → IsTrue (begin_after n (common_of first second))
common_first n [] second apart after = refl
common_first n (r ∷ rs) second apart after =
    let rest = rest_apart r rs apart in
    sweep_first (common_of rs) n r rs second (λ others. common_first n rs others rest (rest_after n r rs after apart)) after

-- and after what the second list begins after
pub sweep_second : (next : List Range → List Range) (n : ℤ) (r : Range) (ss : List Range)
    → ((others : List Range) → IsTrue (are_apart others) → IsTrue (begin_after n others) → IsTrue (begin_after n (next others)))
    → IsTrue (are_apart ss) → IsTrue (begin_after n ss) → IsTrue (begin_after n (sweep next r ss))
sweep_second next n r [] later apart after = refl
sweep_second next n r (s ∷ ss) later apart after =
    let rest = rest_apart s ss apart in
    by_lt_z r.high s.high
    (λ ends. let test : lt_z r.high s.high ≡ true = grind (arith, ints) in
    rw test (meeting_begins n (int_max r.low s.low) (int_min r.high s.high) (next (s ∷ ss)) (max_second (n +ℤ pos 1) r s after) (later (s ∷ ss) apart after)))
    (λ not_yet. let test : lt_z r.high s.high ≡ false = grind (arith, ints) in
    rw test (meeting_begins n (int_max r.low s.low) (int_min r.high s.high) (sweep next r ss) (max_second (n +ℤ pos 1) r s after) (sweep_second next n r ss later rest (rest_after n s ss after apart))))

pub common_second : (n : ℤ) (first second : List Range) → IsTrue (are_apart second) → IsTrue (begin_after n second) → IsTrue (begin_after n (common_of first second))
common_second n [] second apart after = refl
common_second n (r ∷ rs) second apart after = sweep_second (common_of rs) n r second (λ others o b. common_second n rs others o b) apart after

pub sweep_apart : (next : List Range → List Range) (r : Range) (rs ss : List Range)
    → ((others : List Range) → IsTrue (begin_after r.high (next others)))
    → ((n : ℤ) (others : List Range) → IsTrue (are_apart others) → IsTrue (begin_after n others) → IsTrue (begin_after n (next others)))
    → ((others : List Range) → IsTrue (are_apart others) → IsTrue (are_apart (next others)))
    → IsTrue (are_apart ss) → IsTrue (are_apart (sweep next r ss))
sweep_apart next r rs [] after_first after_second later apart = refl
sweep_apart next r rs (s ∷ ss) after_first after_second later apart =
    let rest = rest_apart s ss apart in
    let further = next_after s ss apart in
    by_lt_z r.high s.high
    (λ ends. let test : lt_z r.high s.high ≡ true = grind (arith, ints) in
    let after : IsTrue (begin_after (int_min r.high s.high) (next (s ∷ ss))) = rw (min_first r s ends) (after_first (s ∷ ss)) in
    rw test (meeting_apart (int_max r.low s.low) (int_min r.high s.high) (next (s ∷ ss)) after (later (s ∷ ss) apart)))
    (λ not_yet. let test : lt_z r.high s.high ≡ false = grind (arith, ints) in
    let after : IsTrue (begin_after (int_min r.high s.high) (sweep next r ss)) = rw (min_second r s not_yet) (sweep_second next s.high r ss (λ others o b. after_second s.high others o b) rest further) in
    rw test (meeting_apart (int_max r.low s.low) (int_min r.high s.high) (sweep next r ss) after (sweep_apart next r rs ss after_first after_second later rest)))

pub common_apart : (first second : List Range) → IsTrue (are_apart first) → IsTrue (are_apart second) → IsTrue (are_apart (common_of first second))
common_apart [] second apart also = refl
common_apart (r ∷ rs) second apart also =
    let rest = rest_apart r rs apart in
    let further = next_after r rs apart in
    sweep_apart (common_of rs) r rs second (λ others. common_first r.high rs others rest further) (λ n others o b. common_second n rs others o b) (λ others o. common_apart rs others rest o) also

-- ---- where one list ends nothing more is common

pub common_none : (first : List Range) → common_of first [] ≡ []
common_none [] = refl
common_none (r ∷ rs) = refl

pub none_left_second : (out first second : List Range) (i j : ℕ) {all : List Range} → length second ≤ j → out ++ common_of (drop i first) (drop j second) ≡ all → out ≡ all
none_left_second out first second i j ended is =
    sym (append-nil out) ∙ sym (ap (λ rest. out ++ rest) (ap (common_of (drop i first)) (drop_of_length-le second ended) ∙ common_none (drop i first))) ∙ is

pub none_left_first : (out first second : List Range) (i j : ℕ) {all : List Range} → length first ≤ i → out ++ common_of (drop i first) (drop j second) ≡ all → out ≡ all
none_left_first out first second i j ended is =
    sym (append-nil out) ∙ sym (ap (λ rest. out ++ common_of rest (drop j second)) (drop_of_length-le first ended)) ∙ is
