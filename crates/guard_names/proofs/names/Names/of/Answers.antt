use Rattle.std.proofs.Common.{◌≡◌, ◌<◌, true, length, map, Some, slice_get, get_or, is_some, ap, sym, ◌∙◌, subst}
use Rattle.std.proofs.lemmas.List.{length-map}
use Rattle.guard_syntax.specs.ModuleViews.{module_view}
use Rattle.guard_names.specs.Order.{is_listed, IsOrder}
use Rattle.guard_names.specs.inside.Queues.{UsesIn}
use Rattle.guard_names.proofs.ByNames.Found.{lists_inside, lists_acyclic, ordered_so}
use Rattle.guard_names.proofs.ByNames.SameUses.{as_many}
use Rattle.guard_names.proofs.InOrder.Placing.{order_below}
use Rattle.guard_names.proofs.names.Names.of.Goals as goal

pub order-requires-clause-inside : goal.order-requires-clause-inside
order-requires-clause-inside c = lists_inside (map module_view c.args.modules.now) c.requires.named (map (λ v. v.items) c.args.uses.now) c.requires.used

pub order-requires-clause-acyclic : goal.order-requires-clause-acyclic
order-requires-clause-acyclic c = lists_acyclic (map module_view c.args.modules.now) c.requires.named (map (λ v. v.items) c.args.uses.now) c.requires.used c.requires.acyclic

pub places-requires : goal.places-requires
places-requires c = λ number h. order_below (length c.args.uses.now) (UsesIn (map (λ v. v.items) c.args.uses.now)) c.in_ok-order.order.items c.in_ok-order.ensures number (subst (λ xs. is_listed xs number ≡ true) c.deref.ensures.value h)

pub invariant_of-result : goal.invariant_of-result
invariant_of-result c = record {
  looked_up = c.requires.modules;
  numbered = c.in_ok-numbers.ensures;
  faultless = ap is_some c.requires.named;
  meant = c.requires.meant;
  ordered =
      ordered_so (map module_view c.args.modules.now) c.requires.named (map (λ v. v.items) c.args.uses.now) c.requires.used c.in_ok-order.order.items
      (subst (λ n. IsOrder n (UsesIn (map (λ v. v.items) c.args.uses.now)) c.in_ok-order.order.items) (sym (length-map c.args.uses.now (λ v. v.items))) c.in_ok-order.ensures);
  whole = c.in_ok-places.ensures.size ∙ sym (length-map c.args.uses.now (λ v. v.items)) ∙ ap length c.requires.used ∙ as_many (map module_view c.args.modules.now) c.requires.named;
  placed = λ number below.
      subst (λ xs. slice_get xs (get_or c.in_ok-places.places.items number 0) ≡ Some number) c.deref.ensures.value
      (c.in_ok-places.ensures.placed number (subst (λ xs. is_listed xs number ≡ true) (sym c.deref.ensures.value) (c.in_ok-order.ensures.all number (subst (λ n. number < n) c.in_ok-places.ensures.size below))));
}
