use Rattle.std.proofs.Common.{◌≡◌, ◌∙◌, ◌+◌, ◌-◌, ap, sym, arith, Option, ℕ, suc, add-one, List, Bool}
use Rattle.std.proofs.lemmas.Bool.{ne_eqb, eq-eqb}
use Rattle.guard_model.specs.declared.tag.Tag.{Tag}
use Rattle.guard_tables.specs.NodesView.{spots_in}
use Rattle.guard_tables.specs.TableNodes.{spot_at, parts_between}
use Rattle.guard_tables.proofs.Spots.{node_at, there_at}
use Rattle.guard_reader.specs.Fronts.{Front, here, all_inside, or_front, parts_front}
use Rattle.guard_reader.proofs.FrontSteps.{front_within}
use Rattle.guard_reader.proofs.NodeTags.{is_kind_choice, layered_inner, body_layered, body_bare, near_front, far_away, octet_there, octet_turned, octet_elsewhere, far_tagged, far_untagged, choice_front, alternatives_step, alternatives_end, kind_of_choice}
use Rattle.guard_reader.proofs.element_fronts.+fronts.Goals as goal

-- ---- by the node's octets

pub front_at-returns-then-begins : goal.front_at-returns-then-begins
front_at-returns-then-begins t c =
    let h = c.index-node.result.now in
    let n = node_at c.args.table.now c.args.at h c.requires c.index-node.ensures in
    c.cut_off.ensures
    ∙ sym (near_front c.args.table.now c.args.at h n c.args.octets.now (ne_eqb h.identifier 256 (λ e. absurd (omega (arith, e, c.begins.ensures.small c.if-begins.true))))
    ∙ octet_there h.identifier h.other c.args.octets.now (sym c.begins.ensures.same ∙ c.if-begins.true))

pub front_at-returns-then-node-eq256 : goal.front_at-returns-then-node-eq256
front_at-returns-then-node-eq256 t c =
    let h = c.index-node.result.now in
    let n = node_at c.args.table.now c.args.at h c.requires c.index-node.ensures in
    c.far_front.ensures ∙ sym (far_away c.args.table.now c.args.at h n c.args.octets.now (eq-eqb h.identifier 256 c.if-node-eq256.true))

pub front_at-returns-then-begins-2 : goal.front_at-returns-then-begins-2
front_at-returns-then-begins-2 t c =
    let h = c.index-node.result.now in
    let n = node_at c.args.table.now c.args.at h c.requires c.index-node.ensures in
    sym (near_front c.args.table.now c.args.at h n c.args.octets.now (ne_eqb h.identifier 256 c.if-node-eq256.false)
    ∙ octet_turned h.identifier h.other c.args.octets.now (sym c.begins.ensures.same ∙ c.if-begins.false) (sym c.begins-2.ensures.same ∙ c.if-begins-2.true))

pub front_at-returns : goal.front_at-returns
front_at-returns t c =
    let h = c.index-node.result.now in
    let n = node_at c.args.table.now c.args.at h c.requires c.index-node.ensures in
    sym (near_front c.args.table.now c.args.at h n c.args.octets.now (ne_eqb h.identifier 256 c.if-node-eq256.false)
    ∙ octet_elsewhere h.identifier h.other c.args.octets.now (sym c.begins.ensures.same ∙ c.if-begins.false) (sym c.begins-2.ensures.same ∙ c.if-begins-2.false))

-- ---- without an octet of its own

pub far_front-returns-in-Some : goal.far_front-returns-in-Some
far_front-returns-in-Some t c =
    let p = (spot_at (spots_in c.args.table.now) c.args.at).plan in
    let pair : Option Tag → Bool → Option Tag × Bool = λ tag form. (tag, form) in
    c.head_front.ensures
    ∙ sym (far_tagged p c.args.octets.now c.in-Some.tag c.outermost-outside.result.constructed _
    (sym c.outermost-outside.ensures ∙ ap (λ (tag : Option Tag). pair tag c.outermost-outside.result.constructed) c.in-Some.is))

pub far_front-returns-in-None : goal.far_front-returns-in-None
far_front-returns-in-None t c =
    let p = (spot_at (spots_in c.args.table.now) c.args.at).plan in
    let pair : Option Tag → Bool → Option Tag × Bool = λ tag form. (tag, form) in
    c.untagged.ensures
    ∙ sym (far_untagged p c.args.octets.now c.outermost-outside.result.constructed _
    (sym c.outermost-outside.ensures ∙ ap (λ (tag : Option Tag). pair tag c.outermost-outside.result.constructed) c.in-None.is))

pub untagged-untagged-requires : goal.untagged-untagged-requires
untagged-untagged-requires t c =
    let h = c.index-node.result.now in
    let n = node_at c.args.table.now c.args.at h c.requires c.index-node.ensures in
    let inner = n.node.inner (layered_inner h.kind (sym c.has_layers.ensures ∙ c.if-has_layers.true)) in
    (omega (arith, inner), omega (arith, inner, c.requires))

pub untagged-returns-then-has_layers : goal.untagged-returns-then-has_layers
untagged-returns-then-has_layers t c =
    let h = c.index-node.result.now in
    let n = node_at c.args.table.now c.args.at h c.requires c.index-node.ensures in
    c.untagged.ensures ∙ sym (body_layered c.args.table.now c.args.at h n c.args.octets.now (sym c.has_layers.ensures ∙ c.if-has_layers.true))

pub untagged-alternatives-requires : goal.untagged-alternatives-requires
untagged-alternatives-requires t c =
    let h = c.index-node.result.now in
    (omega arith, (c.requires, record { node = h; there = there_at c.args.table.now c.args.at h c.requires c.index-node.ensures; kind = is_kind_choice h.kind (sym c.is_choice.ensures ∙ c.if-is_choice.true) }))

pub untagged-returns : goal.untagged-returns
untagged-returns t c =
    let h = c.index-node.result.now in
    let n = node_at c.args.table.now c.args.at h c.requires c.index-node.ensures in
    sym (body_bare c.args.table.now c.args.at h n c.args.octets.now (sym c.has_layers.ensures ∙ c.if-has_layers.false) (sym c.is_choice.ensures ∙ c.if-is_choice.false))

-- ---- alternatives

pub alternatives-overflow_add-k-end : goal.alternatives-overflow_add-k-end
alternatives-overflow_add-k-end t c =
    let n = node_at c.args.table.now c.args.at c.index-node.result.now c.requires.room c.index-node.ensures in
    omega (arith, n.node.before, c.ranges.at.fits)

pub alternatives-loop-k-init : goal.alternatives-loop-k-init
alternatives-loop-k-init t c =
    let h = c.index-node.result.now in
    let n = node_at c.args.table.now c.args.at h c.requires.room c.index-node.ensures in
    let count : h.first + h.count - h.first ≡ h.count = omega arith in
    ap (λ (n : ℕ). all_inside c.args.octets.now (parts_front (parts_between (spots_in c.args.table.now) h.first n) c.args.octets.now)) count
    ∙ sym (choice_front c.args.table.now c.args.at h n c.args.octets.now (kind_of_choice c.args.table.now c.args.at h c.requires.kind c.requires.room c.index-node.ensures))

pub alternatives-front_at-requires : goal.alternatives-front_at-requires
alternatives-front_at-requires t c =
    let n = node_at c.args.table.now c.args.at c.index-node.result.now c.requires.room c.index-node.ensures in
    (omega (arith, n.node.before, c.loop-k-test.true), omega (arith, n.node.before, c.loop-k-test.true, c.requires.room))

pub alternatives-front_of-requires : goal.alternatives-front_of-requires
alternatives-front_of-requires t c =
    let p = (spot_at (spots_in c.args.table.now) c.loop-k.k).plan in
    let w = front_within p c.args.octets.now c.in-Here.field-0.now c.in-Here.rest.now (sym c.in-Here.ensures) in
    omega (arith, w.rest_room)

pub alternatives-returns-in-Here : goal.alternatives-returns-in-Here
alternatives-returns-in-Here t c =
    let h = c.index-node.result.now in
    let os = c.args.octets.now in
    let n = node_at c.args.table.now c.args.at h c.requires.room c.index-node.ensures in
    let later = parts_front (parts_between (spots_in c.args.table.now) (suc c.loop-k.k) (h.first + h.count - suc c.loop-k.k)) os in
    let step = alternatives_step c.args.table.now c.loop-k.k (h.first + h.count) os c.loop-k-test.true (omega (arith, n.node.before, c.requires.room)) in
    ap (λ (whole : List ℕ). here whole c.in-Here.rest.now) c.front_of.ensures
    ∙ sym (ap (all_inside os) (step ∙ ap (λ (f : Front). or_front f later) (sym c.in-Here.ensures)))
    ∙ c.loop-k.invariant

pub alternatives-returns-in-Broken : goal.alternatives-returns-in-Broken
alternatives-returns-in-Broken t c =
    let h = c.index-node.result.now in
    let os = c.args.octets.now in
    let n = node_at c.args.table.now c.args.at h c.requires.room c.index-node.ensures in
    let later = parts_front (parts_between (spots_in c.args.table.now) (suc c.loop-k.k) (h.first + h.count - suc c.loop-k.k)) os in
    let step = alternatives_step c.args.table.now c.loop-k.k (h.first + h.count) os c.loop-k-test.true (omega (arith, n.node.before, c.requires.room)) in
    sym (ap (all_inside os) (step ∙ ap (λ (f : Front). or_front f later) (sym c.in-Broken.ensures))) ∙ c.loop-k.invariant

pub alternatives-loop-k-preserved : goal.alternatives-loop-k-preserved
alternatives-loop-k-preserved t c =
    let h = c.index-node.result.now in
    let os = c.args.octets.now in
    let n = node_at c.args.table.now c.args.at h c.requires.room c.index-node.ensures in
    let later = parts_front (parts_between (spots_in c.args.table.now) (suc c.loop-k.k) (h.first + h.count - suc c.loop-k.k)) os in
    let step = alternatives_step c.args.table.now c.loop-k.k (h.first + h.count) os c.loop-k-test.true (omega (arith, n.node.before, c.requires.room)) in
    rw add-one (sym (ap (all_inside os) (step ∙ ap (λ (f : Front). or_front f later) (sym c.in-Elsewhere.ensures))) ∙ c.loop-k.invariant)

pub alternatives-returns : goal.alternatives-returns
alternatives-returns t c =
    let h = c.index-node.result.now in
    sym (ap (all_inside c.args.octets.now) (alternatives_end c.args.table.now c.loop-k.k (h.first + h.count) c.args.octets.now (omega (arith, c.loop-k-test.false)))) ∙ c.loop-k.invariant
