use Rattle.std.proofs.Common.{◌∙◌, refl}
use Rattle.guard_tables.proofs.Comings.{elements_come, tagged_cold}
use Rattle.guard_tables.proofs.assembly.as_elements.Goals as goal

pub invariant_of-result : goal.invariant_of-result
invariant_of-result c = record {
  stands = rw (c.bare-node.ensures.hot, c.kind.ensures, c.len-first.ensures ∙ c.args.element.builder.hots.ok.0)
      (elements_come c.args.element c.in_ok-builder.builder c.in_ok-builder.ensures c.args.elements c.args.tag c.identifiers_of-identifiers.result c.identifiers_of-identifiers.ensures.own c.identifiers_of-identifiers.ensures.other
      (tagged_cold c.bare-node.result.cold c.args.tag) c.bare-node.ensures.cold.default c.bare-node.ensures.cold.present c.bare-node.ensures.cold.conditions refl).node;
}

pub returns : goal.returns
returns c = record {
  grows = c.in_ok-builder.ensures.grows;
  stands = rw (c.bare-node.ensures.hot, c.kind.ensures, c.len-first.ensures ∙ c.args.element.builder.hots.ok.0)
      (elements_come c.args.element c.in_ok-builder.builder c.in_ok-builder.ensures c.args.elements c.args.tag c.identifiers_of-identifiers.result c.identifiers_of-identifiers.ensures.own c.identifiers_of-identifiers.ensures.other
      (tagged_cold c.bare-node.result.cold c.args.tag) c.bare-node.ensures.cold.default c.bare-node.ensures.cold.present c.bare-node.ensures.cold.conditions refl).stands;
}
