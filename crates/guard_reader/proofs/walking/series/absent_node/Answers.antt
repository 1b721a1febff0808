use Rattle.std.proofs.Common.{◌∙◌, ap, sym, Some}
use Rattle.guard_tables.specs.declared.node.Cold.{Cold}
use Rattle.guard_tables.specs.declared.node.Need.{Need}
use Rattle.guard_tables.specs.declared.slots.Slots.{Slots}
use Rattle.guard_tables.specs.NodeViews.{absence_of}
use Rattle.guard_tables.specs.Slots.{added}
use Rattle.guard_tables.specs.TableNodes.{Spot, spot_of}
use Rattle.guard_tables.proofs.SlotSums.{added_none}
use Rattle.guard_tables.proofs.Spots.{node_at, cold_at}
use Rattle.guard_reader.specs.Judging.{absent_part}
use Rattle.guard_reader.proofs.walking.series.absent_node.Goals as goal

pub returns-in-Free : goal.returns-in-Free
unfolding spot_of
returns-in-Free c =
    let n = node_at c.args.table.now c.args.at c.args.node.now c.requires.room c.requires.node in
    ap (λ (s : Spot). absent_part s.side.absent c.args.failed.now) n.spot
    ∙ ap (λ (need : Need). absent_part (absence_of need n.cold.absent) c.args.failed.now) c.in-Free.is
    ∙ ap (λ (m : Slots). Some m) (added_none c.args.failed.now)

pub returns-in-Mandatory : goal.returns-in-Mandatory
unfolding spot_of
returns-in-Mandatory c =
    let n = node_at c.args.table.now c.args.at c.args.node.now c.requires.room c.requires.node in
    ap (λ (s : Spot). absent_part s.side.absent c.args.failed.now) n.spot
    ∙ ap (λ (need : Need). absent_part (absence_of need n.cold.absent) c.args.failed.now) c.in-Mandatory.is

pub returns-in-Costs : goal.returns-in-Costs
unfolding spot_of
returns-in-Costs c =
    let n = node_at c.args.table.now c.args.at c.args.node.now c.requires.room c.requires.node in
    ap (λ (s : Spot). absent_part s.side.absent c.args.failed.now) n.spot
    ∙ ap (λ (need : Need). absent_part (absence_of need n.cold.absent) c.args.failed.now) c.in-Costs.is
    ∙ ap (λ (k : Cold). Some (added c.args.failed.now k.absent)) (cold_at c.args.table.now c.args.at c.args.node.now c.cost.ensures.0 n c.requires.room c.cost.ensures.1)
    ∙ ap (λ (m : Slots). Some m) (sym c.cost.ensures.2)
