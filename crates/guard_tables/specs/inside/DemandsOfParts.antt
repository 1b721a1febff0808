-- What the terms of a node ask of each of its parts.
use Rattle.std.specs.Prelude.{ℕ, zero, suc, Bool, true, false, List, [], ◌∷◌, ◌++◌, map, length}
use Rattle.guard_tables.specs.declared.demands_of_parts.PartDemands.{PartDemands}
use Rattle.guard_tables.specs.declared.slots.Slots.{Slots}
use Rattle.guard_tables.specs.Slots.{none}
use Rattle.guard_tables.specs.Demands.{SlotDemand, Atom, scalar, equals, sized, spelled, each, within, sent, unsent, Term}
use Rattle.guard_tables.specs.OfParts.{within_in, within_of}
use Rattle.guard_tables.specs.Lay.{added_if, slots_where, is_sent, is_unsent, absent_of}
use Rattle.guard_tables.specs.inside.DemandViews.{slot_demands_view}

-- of one part: what is asked of its value, and what fails where it isn't there and where it is
pub record PartAsked : Type 0 where
  pub demands : List SlotDemand
  pub absent : Slots
  pub present : Slots

abbrev pub part_asked : PartDemands → PartAsked
part_asked p = record { demands = slot_demands_view p.demands.items; absent = p.absent; present = p.present }

abbrev pub parts_asked : List PartDemands → List PartAsked
parts_asked parts = map part_asked parts

abbrev pub nothing_asked : PartAsked
nothing_asked = record { demands = []; absent = none; present = none }

-- what these terms ask of the part at this place
abbrev pub asked_at : Bool → ℕ → List Term → PartAsked
asked_at exclusive i terms = record {
  demands = within_of i terms;
  absent = absent_of i terms;
  present = slots_where (is_unsent exclusive i) terms;
}

-- with one term more
abbrev pub with_term : Bool → ℕ → Term → PartAsked → PartAsked
with_term exclusive i t p = record {
  demands = p.demands ++ within_in i t.slots t.atom;
  absent = added_if (is_sent i t.atom) t.slots p.absent;
  present = added_if (is_unsent exclusive i t.atom) t.slots p.present;
}

-- ---- of all parts

-- what the part at this place has becomes this
abbrev pub changed_at : ℕ → (PartAsked → PartAsked) → List PartAsked → List PartAsked
changed_at place f [] = []
changed_at zero f (p ∷ ps) = f p ∷ ps
changed_at (suc place) f (p ∷ ps) = p ∷ changed_at place f ps

-- for each of those before this place, from the last on
abbrev pub added_below : ℕ → Term → List PartAsked → List PartAsked
added_below zero t ps = ps
added_below (suc place) t ps = added_below place t (changed_at place (with_term true place t) ps)

abbrev pub added_to_all : Term → List PartAsked → List PartAsked
added_to_all t ps = added_below (length ps) t ps

abbrev pub add_sent : Bool → ℕ → Term → List PartAsked → List PartAsked
add_sent true place t ps = added_to_all t ps
add_sent false place t ps = changed_at place (with_term false place t) ps

abbrev pub add_atom : Bool → Atom → Term → List PartAsked → List PartAsked
add_atom exclusive (within i d) t ps = changed_at i (with_term exclusive i t) ps
add_atom exclusive (unsent i) t ps = changed_at i (with_term exclusive i t) ps
add_atom exclusive (sent i) t ps = add_sent exclusive i t ps
add_atom exclusive (each d) t ps = ps
add_atom exclusive (scalar own c) t ps = ps
add_atom exclusive (equals w) t ps = ps
add_atom exclusive (sized c) t ps = ps
add_atom exclusive (spelled ranges) t ps = ps

abbrev pub add_term : Bool → Term → List PartAsked → List PartAsked
add_term exclusive t ps = add_atom exclusive t.atom t ps

abbrev pub add_terms : Bool → List Term → List PartAsked → List PartAsked
add_terms exclusive [] ps = ps
add_terms exclusive (t ∷ ts) ps = add_terms exclusive ts (add_term exclusive t ps)
