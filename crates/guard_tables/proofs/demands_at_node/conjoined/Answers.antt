use Rattle.guard_tables.specs.inside.FormViews.{formula_of}
use Rattle.guard_tables.proofs.FormRooms.{conjoined_room, conjoined_so_far}
use Rattle.guard_tables.proofs.demands_at_node.conjoined.Goals as goal

pub form-requires : goal.form-requires
form-requires c =
    let l = c.loop-slot_demand in
    conjoined_room c.args.demands.now l.slot_demand-index c.slot_demand-item.result (formula_of l.tests l.forms.items) _ c.loop-slot_demand-test.true c.slot_demand-item.is l.invariant c.requires

pub loop-slot_demand-preserved : goal.loop-slot_demand-preserved
loop-slot_demand-preserved c =
    let l = c.loop-slot_demand in
    conjoined_so_far c.args.demands.now l.slot_demand-index c.slot_demand-item.result (formula_of l.tests l.forms.items) _ _ c.loop-slot_demand-test.true c.slot_demand-item.is c.in_ok-form.ensures l.invariant
