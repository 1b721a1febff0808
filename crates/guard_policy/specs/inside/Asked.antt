-- What is asked of a value, without where it lies in memory.
use Rattle.std.specs.Prelude.{List, map}
use Rattle.guard_tables.specs.Demands as asked
use Rattle.guard_tables.specs.declared.demands.Demand.{Demand}
use Rattle.guard_tables.specs.inside.DemandViews.{demand_view}

abbrev pub demands_view : List Demand → List asked.Demand
demands_view demands = map demand_view demands
