-- What a table's nodes stand for.
use Rattle.std.specs.Prelude.{◌-◌, List, length}
use Rattle.guard_tables.specs.declared.node_list.Nodes.{Nodes}
use Rattle.guard_tables.specs.TableNodes.{Spot, spots_of, spot_at}
use Rattle.guard_tables.specs.Plan.{Plan}

unfoldable pub spots_in : Nodes → List Spot
spots_in t = spots_of t.hots.items t.colds.items

-- the whole is last
abbrev pub root_of : Nodes → Plan
root_of t = (spot_at (spots_in t) (length t.hots.items - 1)).plan
