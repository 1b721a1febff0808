use Rattle.std.proofs.Common.{◌-◌, length}
use Rattle.guard_frames.proofs.Sendings.{AreCounted}
use Rattle.guard_frames.proofs.sending.counted_in.Given as goal

abbrev pub invariant-loop-frame : goal.invariant-loop-frame
invariant-loop-frame l = AreCounted l.octets l.fn.totals l.counted l.end

abbrev pub decreases-loop-frame : goal.decreases-loop-frame
decreases-loop-frame l = length l.octets - l.end
