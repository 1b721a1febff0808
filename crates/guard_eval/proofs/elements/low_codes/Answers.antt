use Rattle.std.proofs.Common.{refl}
use Rattle.guard_eval.specs.Elements.{is_in_some}
use Rattle.guard_eval.proofs.Codes.{none_marked}
use Rattle.guard_eval.proofs.elements.low_codes.Goals as goal

pub loop-first-init : goal.loop-first-init
loop-first-init c = (refl, λ code lt. none_marked 256 code (is_in_some c.args.ranges.now code) lt)
