use Rattle.std.proofs.Common.{◌+◌, ◌-◌, [], ◌∷◌}
use Rattle.guard_report.specs.Layouts.{spaces}
use Rattle.guard_report.proofs.Writing.{step_on, one_level}
use Rattle.guard_report.proofs.layout.add_new_line.Goals as goal

pub loop-preserved : goal.loop-preserved
loop-preserved c =
    step_on c.loop.text.items c.add-in-loop.new.text.items (32 ∷ 32 ∷ []) (spaces (c.args.level - c.loop.counter)) (spaces (c.args.level - (c.loop.counter + 1))) _
    c.in_ok-add-2.ensures (one_level c.args.level c.loop.counter c.loop-test.true) c.loop.invariant
