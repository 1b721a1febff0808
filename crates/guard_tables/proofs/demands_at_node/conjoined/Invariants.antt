use Rattle.std.proofs.Common.{◌≡◌, [], drop}
use Rattle.guard_tables.specs.Forms.{conjoined}
use Rattle.guard_tables.specs.inside.DemandViews.{slot_demands_view}
use Rattle.guard_tables.specs.inside.FormViews.{formula_of}
use Rattle.guard_tables.proofs.demands_at_node.conjoined.Given as goal

-- with what comes of the demands that are left it is what comes of all
abbrev pub invariant-loop-slot_demand : goal.invariant-loop-slot_demand
invariant-loop-slot_demand l = conjoined (slot_demands_view (drop l.slot_demand-index l.demands)) (formula_of l.tests l.forms.items) ≡ conjoined (slot_demands_view l.demands) (formula_of l.initial.tests [])
