use Rattle.std.proofs.Common.{◌∙◌, ap, sym}
use Rattle.guard_tables.specs.Slots.{added}
use Rattle.guard_tables.specs.TableNodes.{Spot, spot_of}
use Rattle.guard_tables.proofs.Spots.{node_at, cold_spot}
use Rattle.guard_reader.proofs.NodeSteps.{none_costs}
use Rattle.guard_reader.proofs.walking.choices.choose.Goals as goal

pub returns-then-index : goal.returns-then-index
unfolding spot_of
returns-then-index c =
    let s = cold_spot c.args.table.now c.args.at c.index-then-index.result.now c.requires c.index-then-index.ensures in
    c.cost.ensures ∙ sym (ap (λ (s : Spot). added c.args.failed.now s.side.present) s.1)

pub returns-else-index : goal.returns-else-index
returns-else-index c = sym (none_costs c.args.table.now c.args.at c.index.result.now (node_at c.args.table.now c.args.at c.index.result.now c.requires c.index.ensures) c.if-index.false c.args.failed.now)
