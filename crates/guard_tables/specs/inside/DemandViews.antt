-- What is asked, without where it lies in memory.
use Rattle.std.specs.Prelude.{List, map}
use Rattle.guard_model.specs.TypeView.{type_view, kind_view, constraint_view}
use Rattle.guard_model.specs.ValueView.{value_view}
use Rattle.guard_tables.specs.declared.demands.Demand.{Demand}
use Rattle.guard_tables.specs.declared.demands.Demand.TheVariants as demand
use Rattle.guard_tables.specs.declared.demands.SlotDemand.{SlotDemand}
use Rattle.guard_tables.specs.declared.demands.Atom.{Atom}
use Rattle.guard_tables.specs.declared.demands.Atom.TheVariants as atom
use Rattle.guard_tables.specs.declared.demands.Term.{Term}
use Rattle.guard_tables.specs.Demands as asked

abbrev pub demand_view : Demand → asked.Demand
demand_view (demand.Type t) = asked.by_type (type_view t.now)
demand_view (demand.Constraint kind c) = asked.by_constraint (kind_view kind.now) (constraint_view c.now)

abbrev pub slot_demand_view : SlotDemand → asked.SlotDemand
slot_demand_view a = record { slots = a.slots; demand = demand_view a.demand }

abbrev pub slot_demands_view : List SlotDemand → List asked.SlotDemand
slot_demands_view demands = map slot_demand_view demands

abbrev pub atom_view : Atom → asked.Atom
atom_view (atom.Scalar kind c) = asked.scalar (kind_view kind.now) (constraint_view c.now)
atom_view (atom.Equals v) = asked.equals (value_view v.now)
atom_view (atom.Sized c) = asked.sized (constraint_view c.now)
atom_view (atom.Spelled ranges) = asked.spelled ranges.now
atom_view (atom.Each d) = asked.each (demand_view d)
atom_view (atom.Within i d) = asked.within i (demand_view d)
atom_view (atom.Sent i) = asked.sent i
atom_view (atom.Unsent i) = asked.unsent i

abbrev pub term_view : Term → asked.Term
term_view t = record { slots = t.slots; atom = atom_view t.atom }

abbrev pub terms_view : List Term → List asked.Term
terms_view terms = map term_view terms
