use Rattle.std.proofs.Common.{map}
use Rattle.guard_names.specs.inside.QueueViews.{IsQueue, left_in}
use Rattle.guard_names.proofs.order.order.Given as goal

abbrev pub invariant-loop-queue : goal.invariant-loop-queue
invariant-loop-queue l = IsQueue (map (λ v. v.items) l.uses) l.queue

abbrev pub decreases-loop-queue : goal.decreases-loop-queue
decreases-loop-queue l = left_in l.queue
