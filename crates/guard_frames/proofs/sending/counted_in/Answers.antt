use Rattle.guard_frames.proofs.Sendings.{none_counted, one_counted, all_counted}
use Rattle.guard_frames.proofs.Steps.{first_at}
use Rattle.guard_frames.proofs.sending.counted_in.Goals as goal

pub loop-frame-init : goal.loop-frame-init
loop-frame-init c = none_counted c.args.octets.now c.args.totals

pub loop-frame-preserved : goal.loop-frame-preserved
loop-frame-preserved c =
    let h = c.loop-frame.invariant in
    let s = c.args.octets.now in
    let f = c.in-Frame.frame in
    one_counted s f.octets.now c.args.totals c.loop-frame.counted c.after_going-counted.result c.loop-frame.end h
    (first_at s c.loop-frame.end f h.within c.in-Frame.ensures) c.after_going-counted.ensures

pub returns-in-Rest : goal.returns-in-Rest
returns-in-Rest c =
    all_counted c.args.octets.now c.args.totals c.loop-frame.counted c.loop-frame.end c.in-Rest.field-0 c.loop-frame.invariant
    c.in-Rest.ensures
