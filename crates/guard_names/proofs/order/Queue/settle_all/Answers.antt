use Rattle.std.proofs.Common.{◌+◌, ◌<◌, ◌≤◌, map, length, get_or, drop, refl, sym, ◌∙◌, subst}
use Rattle.std.proofs.lemmas.List.{length-map, at_drop_all}
use Rattle.std.proofs.lemmas.List.Elements.{All-get_or}
use Rattle.guard_names.specs.declared.order.Waiting.{Waiting}
use Rattle.guard_names.specs.inside.Queues.{times_waiting, IsReleased}
use Rattle.guard_names.proofs.InOrder.Settling.{first_released, left_one_less, none_left}
use Rattle.guard_names.proofs.InOrder.Queueing.{same_underway}
use Rattle.guard_names.proofs.order.Queue.settle_all.Goals as goal

pub loop-waiting-init : goal.loop-waiting-init
loop-waiting-init c = record { order = refl; sized = c.requires.sized; placed = c.requires.placed; left = refl }

pub settle-requires : goal.settle-requires
settle-requires c =
    let us = map (λ v. v.items) c.args.uses.now in
    let none : Waiting = record { number = 0; met = 0 } in
    let released = All-get_or (IsReleased us c.args.self.now.order.items) c.args.released.now c.loop-waiting.waiting-index none c.loop-waiting-test.true c.requires.released in
    record {
      inside = c.requires.inside;
      number = subst (λ n. (get_or c.args.released.now c.loop-waiting.waiting-index none).number < n) (length-map c.args.uses.now (λ v. v.items)) released.number;
      sized = c.loop-waiting.invariant.sized;
    }

pub loop-waiting-preserved : goal.loop-waiting-preserved
loop-waiting-preserved c =
    let us = map (λ v. v.items) c.args.uses.now in
    let items = c.args.released.now in
    let i = c.loop-waiting.waiting-index in
    let inv = c.loop-waiting.invariant in
    let below : i < length items = c.loop-waiting-test.true in
    let none : Waiting = record { number = 0; met = 0 } in
    let released = All-get_or (IsReleased us c.args.self.now.order.items) items i none below c.requires.released in
    record {
      order = c.in_ok-settle.ensures.order ∙ inv.order;
      sized = c.in_ok-settle.ensures.sized;
      placed = c.in_ok-settle.ensures.placed (times_waiting (drop (i + 1) items))
          (subst (λ x. IsReleased us x (get_or items i none)) (sym inv.order) released)
          (same_underway us _ _ _ _ inv.placed _ (λ k. sym (first_released items i k none below)));
      left = left_one_less _ _ _ items i c.in_ok-settle.ensures.left inv.left below;
    }

pub returns : goal.returns
returns c =
    let us = map (λ v. v.items) c.args.uses.now in
    let items = c.args.released.now in
    let i = c.loop-waiting.waiting-index in
    let inv = c.loop-waiting.invariant in
    let ends : length items ≤ i = c.loop-waiting-test.false in
    record {
      order = inv.order;
      sized = inv.sized;
      placed = same_underway us _ _ _ _ inv.placed (λ _. 0) (λ k. sym (at_drop_all (λ ws. times_waiting ws k) items i ends));
      left = none_left _ _ _ _ inv.left (at_drop_all length items i ends);
    }
