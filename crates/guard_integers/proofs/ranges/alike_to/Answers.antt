use Rattle.std.proofs.Common.{rules, arith, ◌≡◌, ◌≤ℤ◌, ◌+ℤ◌, ◌-◌, ◌<◌, ◌≤◌, ◌<ℤ◌, ◌-ℤ◌, to_z, of_z, ℤ, pos, true, false, slice_index_or, length, sym, ap, ◌∙◌, not}
use Rattle.std.specs.Int.{w128}
use Rattle.std.specs.Int.RustNames.{FitsSigned}
use Rattle.std.specs.Int.Signed.{le_z}
use Rattle.std.proofs.lemmas.Int.{ints, to_z-of_z}
use Rattle.guard_integers.specs.declared.ranges.Range.{Range}
use Rattle.guard_integers.specs.Ranges.{one_holds}
use Rattle.guard_integers.specs.inside.Computing.{range_of}
use Rattle.guard_integers.proofs.RangeLists.HoldingRange.{at_number}
use Rattle.guard_integers.proofs.RangeLists.AlikeRuns.{all_to_end, none_after, none_between, later_too, holds_first}
use Rattle.guard_integers.proofs.ranges.alike_to.Goals as goal
use Rattle.guard_integers.proofs.ranges.alike_to.Goals.{else-begun-gt0-via-then-begun-gt0+else-reaches, else-begun-gt0-via-else-begun-gt0}

pub returns-then-reaches-clause-alike : goal.returns-then-reaches-clause-alike
returns-then-reaches-clause-alike c = λ x from to.
    let rs = c.args.ranges.now in
    let k = c.begun_by-begun.result in
    let is = to_z-of_z _ c.args.first c.ranges.first in
    let end : ℤ = (slice_index_or rs (k - 1) (range_of (pos 0) (pos 0))).high in
    let held : FitsSigned w128 end = search rules in
    let begun = at_number rs 0 k true _ c.args.first is c.begun_by-begun.ensures.begun in
    let reached : le_z c.args.first end ≡ true = sym (ap (λ z. le_z z end) is) ∙ sym c.reaches.ensures ∙ c.if-reaches.true in
    let up_to : x ≤ℤ end = omega (arith, ints) in
    let first_up_to : c.args.first ≤ℤ end = grind (arith, ints) in
    let itself : c.args.first ≤ℤ c.args.first = omega (arith, ints) in
    all_to_end rs k c.args.first x (range_of (pos 0) (pos 0)) begun c.begun_by-begun.ensures.within c.if-begun-gt0.true from up_to
    ∙ sym (all_to_end rs k c.args.first c.args.first (range_of (pos 0) (pos 0)) begun c.begun_by-begun.ensures.within c.if-begun-gt0.true itself first_up_to)

pub returns-then-reaches-clause-last : goal.returns-then-reaches-clause-last
returns-then-reaches-clause-last c = λ before.
    let rs = c.args.ranges.now in
    let k = c.begun_by-begun.result in
    let is = to_z-of_z _ c.args.first c.ranges.first in
    let end : ℤ = (slice_index_or rs (k - 1) (range_of (pos 0) (pos 0))).high in
    let held : FitsSigned w128 end = search rules in
    let begun = at_number rs 0 k true _ c.args.first is c.begun_by-begun.ensures.begun in
    let reached : le_z c.args.first end ≡ true = sym (ap (λ z. le_z z end) is) ∙ sym c.reaches.ensures ∙ c.if-reaches.true in
    let first_up_to : c.args.first ≤ℤ end = grind (arith, ints) in
    let itself : c.args.first ≤ℤ c.args.first = omega (arith, ints) in
    ap (λ z. one_holds rs (z +ℤ pos 1)) (to_z-of_z _ end held)
    ∙ none_after rs (k - 1) (range_of (pos 0) (pos 0)) c.requires (omega arith)
    ∙ sym (ap not (all_to_end rs k c.args.first c.args.first (range_of (pos 0) (pos 0)) begun c.begun_by-begun.ensures.within c.if-begun-gt0.true itself first_up_to))

-- The last range that begins by the first integer, where there is one, ends before it.
is_over : (c : goal.After-result-in-Some-1) → 0 < c.begun_by-begun.result
    → le_z c.args.first (slice_index_or c.args.ranges.now (c.begun_by-begun.result - 1) (range_of (pos 0) (pos 0))).high ≡ false
is_over c some =
    let is = to_z-of_z _ c.args.first c.ranges.first in
    elim c.else-begun-gt0.branch [
      | else-begun-gt0-via-then-begun-gt0+else-reaches w ↦
          sym (ap (λ z. le_z z (slice_index_or c.args.ranges.now (c.begun_by-begun.result - 1) (range_of (pos 0) (pos 0))).high) is) ∙ sym w.reaches.ensures ∙ w.if-reaches.false
      | else-begun-gt0-via-else-begun-gt0 w ↦ absurd (omega arith)
    ]

-- no range holds an integer from the first one on that the next range begins above
none_yet : (c : goal.After-result-in-Some-1) (x : ℤ) → c.args.first ≤ℤ x → x <ℤ c.in-Some.next.now.low → one_holds c.args.ranges.now x ≡ false
none_yet c x from before =
    let is = to_z-of_z _ c.args.first c.ranges.first in
    none_between c.args.ranges.now c.begun_by-begun.result c.args.first x (range_of (pos 0) (pos 0)) c.requires c.begun_by-begun.ensures.within
    (at_number c.args.ranges.now 0 c.begun_by-begun.result true _ c.args.first is c.begun_by-begun.ensures.begun) (is_over c)
    (later_too c.args.ranges.now c.begun_by-begun.result x c.in-Some.next.now.low c.requires (λ d. ap (λ (r : Range). r.low) (sym (c.in-Some.ensures.lookup.3.1 d))) before) from

-- the next range begins above the first integer
begins_above : (c : goal.After-result-in-Some-1) → c.args.first <ℤ c.in-Some.next.now.low
begins_above c =
    let is = to_z-of_z _ c.args.first c.ranges.first in
    let none = range_of (pos 0) (pos 0) in
    let later = at_number c.args.ranges.now c.begun_by-begun.result (length c.args.ranges.now) false _ c.args.first is c.begun_by-begun.ensures.later in
    let not_begun : le_z (slice_index_or c.args.ranges.now c.begun_by-begun.result none).low c.args.first ≡ false =
    later c.begun_by-begun.result none (omega arith) c.in-Some.ensures.lookup.3.0 in
    let next : le_z c.in-Some.next.now.low c.args.first ≡ false = ap (λ (r : Range). le_z r.low c.args.first) (c.in-Some.ensures.lookup.3.1 none) ∙ not_begun in
    grind (arith, ints)

pub returns-in-Some-clause-alike : goal.returns-in-Some-clause-alike
returns-in-Some-clause-alike c = λ x from to.
    let held : FitsSigned w128 c.in-Some.next.now.low = search rules in
    let above = begins_above c in
    let before : x <ℤ c.in-Some.next.now.low = omega (arith, ints) in
    let itself : c.args.first ≤ℤ c.args.first = omega (arith, ints) in
    none_yet c x from before ∙ sym (none_yet c c.args.first itself above)

pub returns-in-Some-clause-last : goal.returns-in-Some-clause-last
returns-in-Some-clause-last c = λ before.
    let held : FitsSigned w128 c.in-Some.next.now.low = search rules in
    let above = begins_above c in
    let itself : c.args.first ≤ℤ c.args.first = omega (arith, ints) in
    let none = range_of (pos 0) (pos 0) in
    let next : to_z w128 (of_z w128 (to_z w128 (of_z w128 c.in-Some.next.now.low) -ℤ pos 1)) +ℤ pos 1 ≡ c.in-Some.next.now.low = omega (arith, ints) in
    ap (one_holds c.args.ranges.now) next
    ∙ ap (λ (r : Range). one_holds c.args.ranges.now r.low) (c.in-Some.ensures.lookup.3.1 none)
    ∙ holds_first c.args.ranges.now c.begun_by-begun.result none c.requires c.in-Some.ensures.lookup.3.0
    ∙ sym (ap not (none_yet c c.args.first itself above))

pub returns-in-None-clause-alike : goal.returns-in-None-clause-alike
returns-in-None-clause-alike c = λ x from to.
    let rs = c.args.ranges.now in
    let k = c.begun_by-begun.result in
    let is = to_z-of_z _ c.args.first c.ranges.first in
    let begun = at_number rs 0 k true _ c.args.first is c.begun_by-begun.ensures.begun in
    let over : 0 < k → le_z c.args.first (slice_index_or rs (k - 1) (range_of (pos 0) (pos 0))).high ≡ false =
    λ some. elim c.else-begun-gt0.branch [
      | else-begun-gt0-via-then-begun-gt0+else-reaches w ↦ sym (ap (λ z. le_z z (slice_index_or rs (k - 1) (range_of (pos 0) (pos 0))).high) is) ∙ sym w.reaches.ensures ∙ w.if-reaches.false
      | else-begun-gt0-via-else-begun-gt0 w ↦ absurd (omega arith)
    ] in
    let ended : length rs ≤ k = c.in-None.ensures.lookup.3 in
    let none : (y : ℤ) → c.args.first ≤ℤ y → one_holds rs y ≡ false =
    λ y above. none_between rs k c.args.first y (range_of (pos 0) (pos 0)) c.requires c.begun_by-begun.ensures.within begun over (λ j d at within. absurd (omega arith)) above in
    let itself : c.args.first ≤ℤ c.args.first = omega (arith, ints) in
    none x from ∙ sym (none c.args.first itself)
