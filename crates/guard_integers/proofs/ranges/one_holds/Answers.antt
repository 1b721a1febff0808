use Rattle.std.proofs.Common.{arith, ◌≡◌, ◌-◌, pos, true, false, nat_lt, length, slice_index_or, sym, ap, ◌∙◌}
use Rattle.std.specs.Int.Signed.{le_z}
use Rattle.std.proofs.lemmas.Bool.Decides.{nat_tests}
use Rattle.std.proofs.lemmas.Int.{to_z-of_z}
use Rattle.guard_integers.specs.inside.Computing.{range_of}
use Rattle.guard_integers.proofs.RangeLists.HoldingRange.{found, no_range, at_number}
use Rattle.guard_integers.proofs.ranges.one_holds.Goals as goal

pub returns-then-begun-gt0 : goal.returns-then-begun-gt0
returns-then-begun-gt0 c =
    let is = to_z-of_z _ c.args.number c.ranges.number in
    let d = range_of (pos 0) (pos 0) in
    c.reaches.ensures
    ∙ ap (λ x. le_z x (slice_index_or c.args.ranges.now (c.begun_by-begun.result - 1) d).high) is
    ∙ found c.args.ranges.now c.begun_by-begun.result c.args.number d c.requires
    (at_number c.args.ranges.now 0 c.begun_by-begun.result true _ c.args.number is c.begun_by-begun.ensures.begun)
    (at_number c.args.ranges.now c.begun_by-begun.result (length c.args.ranges.now) false _ c.args.number is c.begun_by-begun.ensures.later)
    c.begun_by-begun.ensures.within c.if-begun-gt0.true

pub returns-else-begun-gt0 : goal.returns-else-begun-gt0
returns-else-begun-gt0 c =
    let is = to_z-of_z _ c.args.number c.ranges.number in
    let later = at_number c.args.ranges.now c.begun_by-begun.result (length c.args.ranges.now) false _ c.args.number is c.begun_by-begun.ensures.later in
    let test : nat_lt 0 c.begun_by-begun.result ≡ false = grind (arith, nat_tests) in
    test ∙ sym (no_range c.args.ranges.now c.begun_by-begun.result c.args.number later c.if-begun-gt0.false)
