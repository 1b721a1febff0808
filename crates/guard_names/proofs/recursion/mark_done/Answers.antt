use Rattle.std.proofs.Common.{◌<◌, length, get_or, arith}
use Rattle.guard_names.proofs.Recursive.Searching.{listed_more, others_more, left_more}
use Rattle.guard_names.proofs.recursion.mark_done.Goals as goal

pub loop-number-preserved : goal.loop-number-preserved
loop-number-preserved c =
    let inv = c.loop-number.invariant in
    let below : c.loop-number.number-index < length c.args.numbers.now = c.loop-number-test.true in
    let r : get_or c.args.numbers.now c.loop-number.number-index 0 < length c.args.marks.now = c.requires c.loop-number.number-index 0 below in
    let here : get_or c.args.numbers.now c.loop-number.number-index 0 < length c.loop-number.marks = omega (arith, r) in
    record {
      listed = listed_more c.loop-number.marks c.args.marks.now c.args.numbers.now c.loop-number.number-index below here inv.listed;
      others = others_more c.loop-number.marks c.args.marks.now c.args.numbers.now c.loop-number.number-index below here inv.others;
      left = left_more c.loop-number.marks c.args.marks.now c.args.numbers.now c.loop-number.number-index below here inv.left;
    }
