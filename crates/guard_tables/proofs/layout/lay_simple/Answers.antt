use Rattle.std.proofs.Common.{length}
use Rattle.guard_tables.specs.inside.Assembled.{spots_so_far}
use Rattle.guard_tables.proofs.layout.lay_simple.Goals as goal

pub invariant_of-result : goal.invariant_of-result
invariant_of-result c = record { stands = c.simple_node-node.ensures.node (spots_so_far c.args.builder) (length c.args.builder.hots.items) }
