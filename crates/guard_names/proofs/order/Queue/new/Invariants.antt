use Rattle.std.proofs.Common.{◌≡◌, [], map, length}
use Rattle.guard_names.specs.inside.QueueViews.{IsSized, ArePlacedIn}
use Rattle.guard_names.proofs.InOrder.Settling.{from_on}
use Rattle.guard_names.proofs.order.Queue.new.Given as goal

-- those from here on are on the way
abbrev pub invariant-loop-number : goal.invariant-loop-number
invariant-loop-number l = record {
  order : l.queue.order.items ≡ [];
  sized : IsSized (map (λ v. v.items) l.uses) l.queue;
  placed : ArePlacedIn (map (λ v. v.items) l.uses) l.queue (from_on l.number (length (map (λ v. v.items) l.uses)));
}
