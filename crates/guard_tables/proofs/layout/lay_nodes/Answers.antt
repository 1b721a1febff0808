use Rattle.guard_model.specs.TypeView.{type_view}
use Rattle.guard_tables.specs.Lay.{lay}
use Rattle.guard_tables.specs.inside.DemandViews.{slot_demands_view}
use Rattle.guard_tables.proofs.LaidSteps.{whole_is}
use Rattle.guard_tables.proofs.layout.lay_nodes.Goals as goal

pub returns : goal.returns
returns c = whole_is c.new.result c.in_ok-laid.laid c.in_ok-whole.whole c.finish.result (lay (type_view c.args.declared.now) (slot_demands_view c.args.demands.now))
    c.in_ok-laid.ensures c.in_ok-whole.ensures c.finish.ensures.hots c.finish.ensures.colds
