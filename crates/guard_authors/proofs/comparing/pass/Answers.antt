use Rattle.std.proofs.lemmas.List.{take_rest}
use Rattle.guard_authors.proofs.FramesCompared.{none_passed, one_passed}
use Rattle.guard_authors.proofs.comparing.pass.Goals as goal

pub loop-frame-init : goal.loop-frame-init
loop-frame-init c = none_passed _ c.args.octets.now _ _

pub loop-frame-preserved : goal.loop-frame-preserved
loop-frame-preserved c =
    let line = c.in_ok-add_frame.ensures.line in
    one_passed _ c.args.octets.now _ _ c.loop-frame.at _ _ _ c.in-Frame.frame _ _ line.0 c.loop-frame.invariant
    (take_rest c.args.octets.now c.loop-frame.at) c.in-Frame.ensures line.1 line.2 line.3 c.in_ok-add_frame.ensures.counted
