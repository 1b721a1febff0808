use Rattle.std.proofs.Common.{rules, arith, ℤ, ◌≡◌, subst, ap, ◌∙◌}
use Rattle.std.specs.Prelude.{◌≤ℤ◌}
use Rattle.std.proofs.lemmas.Int.{ints, clamps, to_z-of_z}
use Rattle.std.specs.Int.{int_min}
use mir.Syntax.{w32, w128}
use mir.Val.{SFits, to_z, of_z}
use Rattle.guard_integers.specs.Integers.{holds}
use Rattle.guard_tables.proofs.plain_interval.first_run.Goals as goal

-- the lesser of two numbers, as they are cast, from the lowest of these on is one of these
among : (low high last to least : ℤ) → SFits w32 low → SFits w32 high → SFits w128 last → low ≤ℤ high → low ≤ℤ last → to ≡ to_z w32 (of_z w32 high)
    → least ≡ int_min (to_z w128 (of_z w128 last)) (to_z w128 (of_z w128 to)) → (low ≤ℤ least) × (least ≤ℤ high)
among low high last to least a b d le from is min = (omega (arith, ints, clamps), omega (arith, ints, clamps))

-- a number cast to 32 bits, between two of 32 bits
narrow : (low high n : ℤ) → SFits w32 low → SFits w32 high → SFits w128 n → low ≤ℤ n → n ≤ℤ high → to_z w32 (of_z w32 (to_z w128 (of_z w128 n))) ≡ n
narrow low high n a b c d e = omega (arith, ints)

-- where a number of the run lies
places : (low high from last least z : ℤ) → SFits w32 low → SFits w128 from → from ≡ to_z w32 (of_z w32 low) → least ≤ℤ last → least ≤ℤ high
    → to_z w32 (of_z w32 low) ≤ℤ z → z ≤ℤ least → (low ≤ℤ z) × (z ≤ℤ high) × (to_z w128 (of_z w128 from) ≤ℤ z) × (z ≤ℤ last)
places low high from last least z a b is self other above below = (omega (arith, ints), omega (arith, ints), omega (arith, ints), omega (arith, ints))

least_of : (last least : ℤ) → SFits w128 last → least ≤ℤ to_z w128 (of_z w128 last) → least ≤ℤ last
least_of last least a b = omega (arith, ints)

pub overflow_cast-result : goal.overflow_cast-result
overflow_cast-result c =
    let low_fits : SFits w32 c.args.numbers.low = search rules in
    let high_fits : SFits w32 c.args.numbers.high = search rules in
    let last_fits : SFits w128 c.alike_to-last.result = search rules in
    let min_fits : SFits w128 c.min.result = search rules in
    let from : c.args.numbers.low ≤ℤ c.alike_to-last.result = omega (arith, ints, c.alike_to-last.ensures.from, c.from.ensures) in
    let within = among c.args.numbers.low c.args.numbers.high c.alike_to-last.result c.from-2.result c.min.result low_fits high_fits last_fits c.requires from c.from-2.ensures c.min.ensures.value in
    search rules

pub returns : goal.returns
returns c = λ z h.
    let low_fits : SFits w32 c.args.numbers.low = search rules in
    let high_fits : SFits w32 c.args.numbers.high = search rules in
    let last_fits : SFits w128 c.alike_to-last.result = search rules in
    let from_fits : SFits w128 c.from.result = search rules in
    let min_fits : SFits w128 c.min.result = search rules in
    let from : c.args.numbers.low ≤ℤ c.alike_to-last.result = omega (arith, ints, c.alike_to-last.ensures.from, c.from.ensures) in
    let within = among c.args.numbers.low c.args.numbers.high c.alike_to-last.result c.from-2.result c.min.result low_fits high_fits last_fits c.requires from c.from-2.ensures c.min.ensures.value in
    let below : z ≤ℤ c.min.result = subst (λ (n : ℤ). z ≤ℤ n) (narrow c.args.numbers.low c.args.numbers.high c.min.result low_fits high_fits min_fits within.0 within.1) h.1 in
    let at =
    places c.args.numbers.low c.args.numbers.high c.from.result c.alike_to-last.result c.min.result z low_fits from_fits c.from.ensures
    (least_of c.alike_to-last.result c.min.result last_fits c.min.ensures.self_bound) within.1 h.0 below in
    ((at.0, at.1), c.alike_to-last.ensures.alike z at.2 at.3 ∙ ap (holds c.args.set.now) (to_z-of_z w128 c.from.result from_fits ∙ c.from.ensures))
