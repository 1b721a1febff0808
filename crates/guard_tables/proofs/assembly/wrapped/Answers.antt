use Rattle.std.proofs.Common.{◌∙◌, refl, Some}
use Rattle.guard_tables.proofs.Comings.{wrapper_comes, tagged_cold}
use Rattle.guard_tables.proofs.assembly.wrapped.Goals as goal

pub invariant_of-result : goal.invariant_of-result
invariant_of-result c = record {
  stands = rw (c.bare-node.ensures.hot, c.len-first.ensures ∙ c.args.laid.builder.hots.ok.0)
      (wrapper_comes c.args.laid c.in_ok-builder.builder c.in_ok-builder.ensures c.args.tag c.requires c.identifiers_of-identifiers.result c.identifiers_of-identifiers.ensures.own c.identifiers_of-identifiers.ensures.other
      (tagged_cold c.bare-node.result.cold (Some c.args.tag)) c.bare-node.ensures.cold.default c.bare-node.ensures.cold.present c.bare-node.ensures.cold.conditions refl).node;
}

pub returns : goal.returns
returns c = record {
  grows = c.in_ok-builder.ensures.grows;
  stands = rw (c.bare-node.ensures.hot, c.len-first.ensures ∙ c.args.laid.builder.hots.ok.0)
      (wrapper_comes c.args.laid c.in_ok-builder.builder c.in_ok-builder.ensures c.args.tag c.requires c.identifiers_of-identifiers.result c.identifiers_of-identifiers.ensures.own c.identifiers_of-identifiers.ensures.other
      (tagged_cold c.bare-node.result.cold (Some c.args.tag)) c.bare-node.ensures.cold.default c.bare-node.ensures.cold.present c.bare-node.ensures.cold.conditions refl).stands;
}
