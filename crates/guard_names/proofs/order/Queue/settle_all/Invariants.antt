use Rattle.std.proofs.Common.{◌≡◌, ◌+◌, map, length, drop}
use Rattle.guard_names.specs.inside.Queues.{times_waiting}
use Rattle.guard_names.specs.inside.QueueViews.{IsSized, ArePlacedIn, left_in}
use Rattle.guard_names.proofs.order.Queue.settle_all.Given as goal

-- those that are left are on the way
abbrev pub invariant-loop-waiting : goal.invariant-loop-waiting
invariant-loop-waiting l = record {
  order : l.self.order.items ≡ l.fn.self.order.items;
  sized : IsSized (map (λ v. v.items) l.uses) l.self;
  placed : ArePlacedIn (map (λ v. v.items) l.uses) l.self (times_waiting (drop l.waiting-index l.released));
  left : left_in l.self + length (drop l.waiting-index l.released) ≡ left_in l.fn.self + length l.released;
}
