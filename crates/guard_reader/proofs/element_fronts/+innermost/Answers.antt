use Rattle.std.proofs.Common.{◌∙◌, ap, sym, arith}
use Rattle.std.specs.Prelude.{true, false}
use Rattle.guard_tables.specs.NodesView.{spots_in}
use Rattle.guard_tables.specs.Plan.{form_in, tags_in}
use Rattle.guard_tables.specs.TableNodes.{spot_at}
use Rattle.guard_tables.proofs.Spots.{node_at, cold_at}
use Rattle.guard_reader.specs.Fronts.{alone, front, innermost}
use Rattle.guard_reader.proofs.Elements.{bind_some, bind_none}
use Rattle.guard_reader.proofs.NodeTags.{layered_inner, innermost_bare, innermost_once, innermost_twice, two_tags}
use Rattle.guard_reader.proofs.element_fronts.+innermost.Goals as goal

pub returns-then-not-has_layers : goal.returns-then-not-has_layers
returns-then-not-has_layers t c =
    let h = c.index-node.result.now in
    let n = node_at c.args.table.now c.args.at h c.requires c.index-node.ensures in
    sym (innermost_bare c.args.table.now c.args.at h n c.args.octets.now (sym c.has_layers.ensures ∙ c.if-not-has_layers.true))

pub outermost-requires : goal.outermost-requires
outermost-requires t c =
    let h = c.index-node.result.now in
    let n = node_at c.args.table.now c.args.at h c.requires c.index-node.ensures in
    let inner = n.node.inner (layered_inner h.kind (sym c.has_layers.ensures ∙ c.if-not-has_layers.false)) in
    omega (arith, inner, c.requires)

pub front_at-requires : goal.front_at-requires
front_at-requires t c =
    let h = c.index-node.result.now in
    let n = node_at c.args.table.now c.args.at h c.requires c.index-node.ensures in
    let inner = n.node.inner (layered_inner h.kind (sym c.has_layers.ensures ∙ c.if-not-has_layers.false)) in
    omega (arith, inner, c.requires)

pub innermost-requires : goal.innermost-requires
innermost-requires t c =
    let h = c.index-node.result.now in
    let n = node_at c.args.table.now c.args.at h c.requires c.index-node.ensures in
    let inner = n.node.inner (layered_inner h.kind (sym c.has_layers.ensures ∙ c.if-not-has_layers.false)) in
    (omega (arith, inner), omega (arith, inner, c.requires))

pub innermost-requires-2 : goal.innermost-requires-2
innermost-requires-2 t c =
    let h = c.index-node.result.now in
    let n = node_at c.args.table.now c.args.at h c.requires c.index-node.ensures in
    let inner = n.node.inner (layered_inner h.kind (sym c.has_layers.ensures ∙ c.if-not-has_layers.false)) in
    (omega (arith, inner), omega (arith, inner, c.requires))

pub returns-in-Some : goal.returns-in-Some
returns-in-Some t c =
    let h = c.index-node.result.now in
    let n = node_at c.args.table.now c.args.at h c.requires c.index-node.ensures in
    let p = (spot_at (spots_in c.args.table.now) h.first).plan in
    let two = two_tags c.args.table.now c.args.at h c.index.result.now n c.tag_round-round.result c.outermost.result.tag c.outermost.result.constructed true (cold_at c.args.table.now c.args.at h c.index.result.now n c.requires c.index.ensures) c.tag_round-round.ensures c.outermost.ensures (sym c.if-has_two_tags.true ∙ c.has_two_tags.ensures) in
    c.innermost.ensures
    ∙ sym (innermost_twice c.args.table.now c.args.at h n c.args.octets.now (sym c.has_layers.ensures ∙ c.if-not-has_layers.false) two
    ∙ bind_some (alone (front p c.args.octets.now)) (λ inside. innermost (tags_in p) (form_in p) inside) c.in-Some.inside.now (ap alone (sym c.front_at.ensures) ∙ sym c.in-Some.ensures))

pub returns-in-None : goal.returns-in-None
returns-in-None t c =
    let h = c.index-node.result.now in
    let n = node_at c.args.table.now c.args.at h c.requires c.index-node.ensures in
    let p = (spot_at (spots_in c.args.table.now) h.first).plan in
    let two = two_tags c.args.table.now c.args.at h c.index.result.now n c.tag_round-round.result c.outermost.result.tag c.outermost.result.constructed true (cold_at c.args.table.now c.args.at h c.index.result.now n c.requires c.index.ensures) c.tag_round-round.ensures c.outermost.ensures (sym c.if-has_two_tags.true ∙ c.has_two_tags.ensures) in
    sym (innermost_twice c.args.table.now c.args.at h n c.args.octets.now (sym c.has_layers.ensures ∙ c.if-not-has_layers.false) two
    ∙ bind_none (alone (front p c.args.octets.now)) (λ inside. innermost (tags_in p) (form_in p) inside) (ap alone (sym c.front_at.ensures) ∙ sym c.in-None.ensures))

pub returns : goal.returns
returns t c =
    let h = c.index-node.result.now in
    let n = node_at c.args.table.now c.args.at h c.requires c.index-node.ensures in
    let one = two_tags c.args.table.now c.args.at h c.index.result.now n c.tag_round-round.result c.outermost.result.tag c.outermost.result.constructed false (cold_at c.args.table.now c.args.at h c.index.result.now n c.requires c.index.ensures) c.tag_round-round.ensures c.outermost.ensures (sym c.if-has_two_tags.false ∙ c.has_two_tags.ensures) in
    c.innermost-2.ensures ∙ sym (innermost_once c.args.table.now c.args.at h n c.args.octets.now (sym c.has_layers.ensures ∙ c.if-not-has_layers.false) one)
