use Rattle.std.proofs.Common.{◌-◌, length}
use Rattle.guard_frames.specs.Added.{Added, BothAppend}
use Rattle.guard_frames.specs.Calls.{AsksLines}
use Rattle.guard_frames.specs.Recalling.{Recalls}
use Rattle.guard_frames.specs.inside.Unsent.{totals_with}
use Rattle.guard_frames.specs.inside.Waiting.{AreLines}
use Rattle.guard_frames.proofs.Noting.{NotedBut}
use Rattle.guard_frames.proofs.Waits.{Waits, so_far_told}
use Rattle.guard_frames.proofs.putting.put_frames.Given as goal

abbrev pub invariant-loop-frame : goal.invariant-loop-frame
invariant-loop-frame g l = (added : Added)
    × Waits (g.D.Decide.decides l.policy) l.fn.totals (totals_with l.unsent) l.unsent.totals l.octets l.waiting.lines.items l.unsent.start l.end added
    × BothAppend (g.O.Sink.taken l.initial.out, g.O.Sink.taken l.out)
    (g.R.Sink.taken l.initial.reports, g.R.Sink.taken l.reports) added
    × AsksLines (g.R.Sink.asked l.initial.reports) (g.R.Sink.asked l.reports) × AreLines l.waiting.lines.items
    × NotedBut (g.D.Decide.gives l.policy) (g.D.Decide.lets l.policy) g.W.Watch.notes l.initial.watch l.untold l.unsent.frames l.end
    (so_far_told added l.octets l.waiting.lines.items l.unsent.start l.end) l.watch
    × Recalls (g.D.Decide.decides l.policy) (g.D.Decide.lets l.policy) (g.D.Decide.reasons_of l.policy) l.last

abbrev pub decreases-loop-frame : goal.decreases-loop-frame
decreases-loop-frame g l = length l.octets - l.end
