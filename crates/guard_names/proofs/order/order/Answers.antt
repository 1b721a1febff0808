use Rattle.std.proofs.Common.{map, refl, subst}
use Rattle.std.proofs.lemmas.List.{length-map}
use Rattle.guard_names.specs.Order.{IsOrder}
use Rattle.guard_names.specs.inside.Queues.{UsesIn}
use Rattle.guard_names.proofs.InOrder.Queueing.{all_are_listed}
use Rattle.guard_names.proofs.order.order.Goals as goal

pub returns : goal.returns
returns c =
    let us = map (λ v. v.items) c.args.uses.now in
    let queue = c.in_ok-list_next.ensures.queue in
    let ends = rw c.if-branch.false at c.in_ok-list_next.ensures.ends in
    subst (λ count. IsOrder count (UsesIn us) c.list_next.new.self.order.items) (length-map c.args.uses.now (λ v. v.items)) (record {
      follow = queue.follow;
      all = all_are_listed us _ _ (λ _. 0) _ queue.placed c.requires.inside ends (λ _. refl) c.requires.acyclic;
    })
