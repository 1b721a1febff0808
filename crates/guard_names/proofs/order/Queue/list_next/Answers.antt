use Rattle.std.proofs.Common.{[], map, length, refl, sym, subst, heap_items}
use Rattle.guard_names.specs.Order.{Follow}
use Rattle.guard_names.specs.inside.Queues.{UsesIn}
use Rattle.guard_names.specs.inside.QueueViews.{times_ready}
use Rattle.guard_names.proofs.InOrder.Settling.{one_less_ready, least_popped, popped_was_ready, follow_more}
use Rattle.guard_names.proofs.InOrder.Queueing.{taken, least_is_next}
use Rattle.guard_names.proofs.order.Queue.list_next.Goals as goal

pub list-requires-clause-placed : goal.list-requires-clause-placed
list-requires-clause-placed c =
    taken (map (λ v. v.items) c.args.uses.now) c.args.self.now.order.items _ _ _ c.in-Some.field-0.0 c.requires.queue.placed
    (λ k. one_less_ready _ _ c.in-Some.field-0 k c.in-Some.ensures.permutation)

pub returns-clause-queue : goal.returns-clause-queue
returns-clause-queue c =
    let us = map (λ v. v.items) c.args.uses.now in
    let heap = heap_items c.args.self.now.ready in
    let next = c.in-Some.field-0 in
    record {
      sized = c.in_ok-list.ensures.sized;
      placed = c.in_ok-list.ensures.placed;
      follow = subst (Follow (length us) (UsesIn us) []) (sym c.in_ok-list.ensures.order)
          (follow_more (length us) (UsesIn us) [] c.args.self.now.order.items next.0 c.requires.queue.follow
          (least_is_next us c.args.self.now.order.items (times_ready heap) (λ _. 0) _ c.requires.queue.placed next.0
          (popped_was_ready heap _ next c.in-Some.ensures.permutation)
          (least_popped heap next (c.in-Some.ensures.heap_order c.args.self.now.least_first).1) (λ k. refl)));
    }
