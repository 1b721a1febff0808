use Rattle.std.proofs.Common.{take}
use Rattle.guard_frames.proofs.Appending.{Prefix_of}
use Rattle.guard_frames.proofs.sending.put_going.Goals as goal

pub returns-in-Err-clause-part : goal.returns-in-Err-clause-part
returns-in-Err-clause-part g c =
    let p = c.in-Err.ensures.part in
    (take c.in-Err.taken c.args.frames.now, Prefix_of c.in-Err.taken c.args.frames.now p.0, p.1, c.counted_in.ensures)
