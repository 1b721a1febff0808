use Rattle.std.proofs.Common.{◌≡◌, ◌+◌, ◌*◌, ◌<◌, ◌≤◌, ◌^◌, [], length, map, None}
use Rattle.std.specs.Prelude.{IsTrue}
use Rattle.guard_model.specs.ValueView.{value_view, slot_view, fields_view}
use Rattle.guard_model.specs.AbstractType.{type_of, no_constraints}
use Rattle.guard_model.specs.TypeView.{type_view, kind_view, component_view, components_of}
use Rattle.guard_tagcheck.specs.FirstTags.{begins_with}
use Rattle.guard_tagcheck.specs.Limits.{nesting, nesting_inside, deepest}
use Rattle.guard_der.specs.Sound.{are_proper}
use Rattle.guard_model.specs.Slots.{all_absent}
use Rattle.guard_der.specs.Reading.{element_at, fields_at, items_at, part_at, set_at}
use Rattle.guard_der.proofs.Functions.ComponentLoop.{with_front}
use Rattle.guard_der.proofs.Functions.ElementLoop.{with_items, items_left}
use Rattle.guard_der.proofs.Functions.SetLoop.{Going}
use Rattle.guard_der.proofs.decoding.+reading.Given as goal
use Rattle.guard_model.proofs.Components.{left, in_view}

abbrev pub invariant-components-loop-index : goal.invariant-components-loop-index
invariant-components-loop-index l = record {
  so_far : with_front (map slot_view l.fields.items) (fields_at l.index (left l.comps l.index) l.at l.rest) ≡ fields_at 0 (left l.comps 0) l.start l.octets;
  proper : IsTrue (are_proper (left l.comps l.index));
  depth : deepest (left l.comps l.index) ≤ 31;
  room : l.at + length l.rest < 2 ^ 64;
}

abbrev pub invariant-items-loop-before : goal.invariant-items-loop-before
invariant-items-loop-before l = record {
  so_far : with_items (map value_view l.items.items) (items_left (type_view l.ty) l.ordered (length l.octets) (length l.items.items) l.before l.at l.rest) ≡ items_at (length l.octets) l.ordered (begins_with (type_view l.ty)) (element_at (type_view l.ty)) 0 [] l.start l.octets;
  counted : length l.items.items + length l.rest ≤ length l.octets;
  room : l.at + length l.rest < 2 ^ 64;
}

abbrev pub decreases-items-loop-before : goal.decreases-items-loop-before
decreases-items-loop-before l = length l.rest

-- Each call goes down: from an element and nothing after it to the element, from there to its contents, and from a kind to its parts.
abbrev pub decreases-alone : goal.decreases-alone
decreases-alone l = 8 * nesting (type_of l.tags.now (kind_view l.kind.now) no_constraints) + 4

abbrev pub decreases-element : goal.decreases-element
decreases-element l = 8 * nesting (type_of l.tags.now (kind_view l.kind.now) no_constraints) + 3

abbrev pub decreases-untagged : goal.decreases-untagged
decreases-untagged l = 8 * nesting_inside (kind_view l.kind.now) + 2

abbrev pub decreases-chosen : goal.decreases-chosen
decreases-chosen l = 8 * deepest (components_of (map component_view l.alternatives.now)) + 9

abbrev pub decreases-contents : goal.decreases-contents
decreases-contents l = 8 * nesting_inside (kind_view l.kind.now) + 7

abbrev pub decreases-components : goal.decreases-components
decreases-components l = 8 * deepest (components_of (map component_view l.comps.now)) + 6

abbrev pub decreases-component : goal.decreases-component
decreases-component l = 8 * nesting (type_view l.ty.now) + 5

abbrev pub decreases-sent : goal.decreases-sent
decreases-sent l = 8 * nesting (type_view l.ty.now) + 4

abbrev pub decreases-items : goal.decreases-items
decreases-items l = 8 * nesting (type_view l.ty.now) + 6

abbrev pub decreases-item : goal.decreases-item
decreases-item l = 8 * nesting (type_view l.ty.now) + 5

abbrev pub decreases-next_item : goal.decreases-next_item
decreases-next_item l = 8 * nesting (type_view l.ty.now) + 4

abbrev pub invariant-set_components-loop-rest : goal.invariant-set_components-loop-rest
invariant-set_components-loop-rest l = record {
  so_far : Going (in_view l.comps) (fields_view l.fields.items) l.before l.at l.rest (set_at (length l.octets) (in_view l.comps) (part_at (in_view l.comps)) (all_absent (in_view l.comps)) None l.start l.octets);
  count : length l.fields.items ≡ length l.comps;
  room : l.at + length l.rest < 2 ^ 64;
}

abbrev pub decreases-set_components-loop-rest : goal.decreases-set_components-loop-rest
decreases-set_components-loop-rest l = length l.rest

abbrev pub decreases-set_components : goal.decreases-set_components
decreases-set_components l = 8 * deepest (components_of (map component_view l.comps.now)) + 6

abbrev pub decreases-set_component : goal.decreases-set_component
decreases-set_component l = 8 * deepest (components_of (map component_view l.comps.now)) + 5
