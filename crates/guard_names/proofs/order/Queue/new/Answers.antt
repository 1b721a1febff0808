use Rattle.std.proofs.Common.{◌≡◌, ◌+◌, ◌<◌, false, [], map, length, sym, ◌∙◌, ap, subst, arith, heap_items}
use Rattle.std.specs.Prelude.{replicate}
use Rattle.std.proofs.lemmas.List.{length-map, length-replicate}
use Rattle.guard_names.specs.Order.{Follow}
use Rattle.guard_names.specs.inside.Queues.{UsesIn, AreFlags, ArePlaced}
use Rattle.guard_names.specs.inside.QueueViews.{times_ready}
use Rattle.guard_names.proofs.InOrder.Settling.{from_on, one_settled, all_settled, no_flags, none_settled}
use Rattle.guard_names.proofs.InOrder.Queueing.{same_underway}
use Rattle.guard_names.proofs.order.Queue.new.Goals as goal

pub loop-number-preserved : goal.loop-number-preserved
loop-number-preserved c =
    let us = map (λ v. v.items) c.args.uses.now in
    let count : length us ≡ length c.args.uses.now = length-map c.args.uses.now (λ v. v.items) in
    let below : c.loop-number.number < length us = omega (arith, count) in
    record {
      order = c.in_ok-settle.ensures.order ∙ c.loop-number.invariant.order;
      sized = c.in_ok-settle.ensures.sized;
      placed = c.in_ok-settle.ensures.placed (from_on (c.loop-number.number + 1) (length us))
          (record { number = below; met = λ i h. absurd (omega (arith, h)) })
          (same_underway us _ _ _ _ c.loop-number.invariant.placed _ (λ k. sym (one_settled c.loop-number.number (length us) k below)));
    }

pub loop-number-init : goal.loop-number-init
loop-number-init c =
    let us = map (λ v. v.items) c.args.uses.now in
    let count : length us ≡ length c.args.uses.now = length-map c.args.uses.now (λ v. v.items) in
    let flags_are = c.in_ok-vec.ensures.items_if_clones_equal (λ y h. h) ∙ ap (λ n. replicate n false) (sym count) in
    let rows_are = c.in_ok-empty_lists.ensures ∙ ap (λ n. replicate n []) (sym count) in
    record {
      order = c.new.ensures.items;
      sized = record {
        flags = subst (AreFlags us c.in_ok-vec.field-0.items) (sym c.new.ensures.items) (no_flags us c.in_ok-vec.field-0.items flags_are);
        waiting = sym (length-map c.in_ok-empty_lists.field-0.items (λ v. v.items)) ∙ ap length rows_are ∙ length-replicate (length us) [];
      };
      placed = subst (λ x. ArePlaced us x (times_ready (heap_items c.new-2.result)) (map (λ v. v.items) c.in_ok-empty_lists.field-0.items) (from_on 0 (length us))) (sym c.new.ensures.items)
          (none_settled us _ _ rows_are (λ k. ap (λ x. times_ready x k) c.new-2.ensures.items));
    }

pub returns : goal.returns
returns c =
    let us = map (λ v. v.items) c.args.uses.now in
    let count : length us ≡ length c.args.uses.now = length-map c.args.uses.now (λ v. v.items) in
    let inv = c.loop-number.invariant in
    let at_end : length us ≡ c.loop-number.number = omega (arith, count) in
    record {
      sized = inv.sized;
      placed = same_underway us _ _ _ _ inv.placed (λ _. 0) (λ k. sym (subst (λ n. from_on n (length us) k ≡ 0) at_end (all_settled (length us) k)));
      follow = subst (Follow (length us) (UsesIn us) []) (sym inv.order) tt;
    }
