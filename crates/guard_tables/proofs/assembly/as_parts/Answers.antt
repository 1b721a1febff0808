use Rattle.std.proofs.Common.{arith}
use Rattle.guard_tables.proofs.LaidSteps.{parts_come, parts_stand, all_grown}
use Rattle.guard_tables.proofs.assembly.as_parts.Goals as goal

pub invariant_of-result : goal.invariant_of-result
invariant_of-result c = record {
  stands = parts_come c.args.builder c.args.parts.items c.in_ok-builder.builder c.args.ascending c.len-first.result c.len-count.result c.group_node-node.result c.in_ok-builder.ensures
      (omega (arith, c.len-first.ensures, c.args.builder.hots.ok.0)) (omega (arith, c.len-count.ensures, c.args.parts.ok.0)) c.requires.few c.requires.order c.group_node-node.ensures.node;
}

pub returns : goal.returns
returns c = record {
  grows = all_grown c.args.builder c.args.parts.items c.in_ok-builder.builder c.in_ok-builder.ensures;
  stands = parts_stand c.args.builder c.args.parts.items c.in_ok-builder.builder c.args.group c.args.tag c.len-first.result c.len-count.result c.group_node-node.result c.in_ok-builder.ensures
      (omega (arith, c.len-first.ensures, c.args.builder.hots.ok.0)) (omega (arith, c.len-count.ensures, c.args.parts.ok.0)) c.group_node-node.ensures.plan;
}
