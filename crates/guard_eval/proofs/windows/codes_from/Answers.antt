use Rattle.std.proofs.Common.{◌+◌, refl}
use Rattle.guard_eval.specs.Elements.{is_in_some}
use Rattle.guard_eval.proofs.Codes.{none_marked, window_had}
use Rattle.guard_eval.proofs.windows.codes_from.Goals as goal

pub loop-low-init : goal.loop-low-init
loop-low-init c = (refl, λ place lt. none_marked 1024 place (is_in_some c.args.ranges.now (c.args.first + place)) lt)

pub returns-then-first-high-clause-marked : goal.returns-then-first-high-clause-marked
returns-then-first-high-clause-marked c = λ place within.
    window_had c.args.ranges.now c.loop-low.low-index _ c.args.first 1024 place c.loop-low-test.true c.if-low-first.true c.if-first-high.true within
