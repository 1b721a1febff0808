use Rattle.std.proofs.Common.{rules, get_or, pos}
use Rattle.std.specs.Int.{w128}
use Rattle.std.proofs.lemmas.Int.{to_z-of_z}
use Rattle.std.specs.Prelude.{FitsSigned}
use Rattle.guard_tagging.proofs.Numbers.Items.{taken_more}
use Rattle.guard_tagging.proofs.numbering.set_of.Goals as goal

pub loop-number-preserved : goal.loop-number-preserved
loop-number-preserved c = λ q.
    let fits : FitsSigned w128 (get_or c.args.numbers.now c.loop-number.number-index (pos 0)) = search rules in
    let h =
    rw (to_z-of_z w128 (get_or c.args.numbers.now c.loop-number.number-index
    (pos 0)) fits) at c.in_ok-insert.ensures.updates.0 q in
    taken_more c.args.numbers.now c.loop-number.number-index (pos 0) q _ _ c.loop-number-test.true
    (c.loop-number.invariant q) h
