use Rattle.std.proofs.Common.{◌∙◌, Option, ap, sym, arith}
use Rattle.std.specs.Prelude.{Bool, not}
use Rattle.guard_model.specs.declared.tag.Tag.{Tag}
use Rattle.guard_tables.specs.declared.node.Cold.{Cold}
use Rattle.guard_tables.specs.NodesView.{spots_in}
use Rattle.guard_tables.specs.TableNodes.{spot_at}
use Rattle.guard_tables.proofs.Spots.{node_at, there_at, cold_at}
use Rattle.guard_reader.specs.inside.FrontViews.{outermost, wrapped, tag_and_form}
use Rattle.guard_reader.specs.inside.NodeParts.{is_simple, tag_round}
use Rattle.guard_reader.proofs.NodeTags.{is_in_front, layered_inner, outermost_bare, outermost_layered}
use Rattle.guard_reader.proofs.layers.+outermost.Goals as goal

pub outermost-outermost_round-requires : goal.outermost-outermost_round-requires
outermost-outermost_round-requires t c =
    let h = c.index-node.result.now in
    (omega arith, (c.requires, record { node = h; there = there_at c.args.table.now c.args.at h c.requires c.index-node.ensures; kind = sym c.has_layers.ensures ∙ c.if-has_layers.true }))

pub outermost-returns : goal.outermost-returns
outermost-returns t c =
    let h = c.index-node.result.now in
    let n = node_at c.args.table.now c.args.at h c.requires c.index-node.ensures in
    let pair : Option Tag → Bool → Option Tag × Bool = λ tag form. (tag, form) in
    sym (outermost_bare c.args.table.now c.args.at h n (sym c.has_layers.ensures ∙ c.if-has_layers.false)
    ∙ ap (λ (k : Cold). pair k.tag (not (is_simple h.kind))) (cold_at c.args.table.now c.args.at h c.index.result.now n c.requires c.index.ensures)
    ∙ ap (λ (b : Bool). pair c.index.result.now.tag (not b)) (sym c.is_simple.ensures))

pub outermost_round-outermost-inner-requires : goal.outermost_round-outermost-inner-requires
outermost_round-outermost-inner-requires t c =
    let h = c.index-node.result.now in
    let n = node_at c.args.table.now c.args.at h c.requires.room c.index-node.ensures in
    let inner = n.node.inner (layered_inner h.kind (is_in_front c.args.table.now c.args.at h c.requires.front c.requires.room c.index-node.ensures)) in
    (omega (arith, inner), omega (arith, inner, c.requires.room))

pub outermost_round-returns : goal.outermost_round-returns
outermost_round-returns t c =
    let h = c.index-node.result.now in
    let n = node_at c.args.table.now c.args.at h c.requires.room c.index-node.ensures in
    let inner = outermost (spot_at (spots_in c.args.table.now) h.first).plan in
    c.wrapped.ensures
    ∙ ap (λ (tag : Option Tag). wrapped tag (tag_and_form c.outermost-inner.result)) c.tag_round.ensures
    ∙ ap (wrapped (tag_round h.kind c.index.result.now.tag)) c.outermost-inner.ensures
    ∙ ap (λ (k : Cold). wrapped (tag_round h.kind k.tag) inner) (sym (cold_at c.args.table.now c.args.at h c.index.result.now n c.requires.room c.index.ensures))
    ∙ sym (outermost_layered c.args.table.now c.args.at h n (is_in_front c.args.table.now c.args.at h c.requires.front c.requires.room c.index-node.ensures))
