use Rattle.std.proofs.Common.{arith}
use Rattle.guard_integers.proofs.RangeLists.CommonParts.{none_left_first, none_left_second}
use Rattle.guard_integers.proofs.lists.common.Goals.{then-loop-at_first-test+else-at_second-second, else-loop-at_first-test}
use Rattle.guard_integers.proofs.lists.common.Goals as goal

pub returns : goal.returns
returns c =
    elim c.loop-at_first-test.branch [
      | then-loop-at_first-test+else-at_second-second w ↦ none_left_second c.loop-at_first.common.items c.args.first.now c.args.second.now c.loop-at_first.at_first c.loop-at_first.at_second (omega arith) c.loop-at_first.invariant
      | else-loop-at_first-test w ↦ none_left_first c.loop-at_first.common.items c.args.first.now c.args.second.now c.loop-at_first.at_first c.loop-at_first.at_second (omega arith) c.loop-at_first.invariant
    ]
