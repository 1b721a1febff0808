use Rattle.guard_tables.proofs.Spots.{node_at}
use Rattle.guard_reader.proofs.NodeSteps.{none_watched}
use Rattle.guard_reader.proofs.walking.series.check.Goals as goal

pub returns-then-not-node : goal.returns-then-not-node
returns-then-not-node c = none_watched c.args.table.now c.args.at c.args.node.now (node_at c.args.table.now c.args.at c.args.node.now c.requires.room c.requires.node) c.if-not-node.true c.args.inside.now c.args.failed.now
