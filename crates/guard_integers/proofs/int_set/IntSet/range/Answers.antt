use Rattle.std.proofs.Common.{arith, ◌≡◌, ◌&&◌, int_le, ◌∙◌}
use Rattle.std.proofs.lemmas.Int.{ints}
use Rattle.std.proofs.lemmas.Grind.{common_steps}
use Rattle.guard_model.specs.Limits.{fits_128_bits}
use Rattle.guard_integers.specs.Integers.{holds_by}
use Rattle.guard_integers.specs.Ranges.{one_holds}
use Rattle.guard_integers.proofs.int_set.IntSet.range.Goals as goal
use Rattle.guard_integers.proofs.int_set.IntSet.range.Goals.{then-low-high+in_ok-push, else-low-high}

pub returns : goal.returns
returns c = λ x.
    let kept : fits_128_bits x && one_holds c.if-low-high.ranges.items x ≡ fits_128_bits x && (int_le c.args.low x && int_le x c.args.high) =
    elim c.if-low-high.branch [ then-low-high+in_ok-push w ↦ grind (arith, ints, common_steps) | else-low-high w ↦ grind (arith, ints, common_steps) ] in
    holds_by c.if-low-high.ranges.items x ∙ kept
