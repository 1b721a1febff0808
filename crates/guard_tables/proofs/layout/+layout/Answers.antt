use Rattle.std.proofs.Common.{arith, ◌≡◌, ℕ, ◌<◌, Bool, true, List, length, replicate, get_or, map, refl, rules, sym, ap, subst, ◌∙◌}
use Rattle.guard_model.specs.AbstractType.{AbstractKind}
use Rattle.guard_model.specs.Kinds.{kind_of}
use Rattle.guard_model.specs.TypeView.{type_view, kind_view, component_view, components_of}
use Rattle.guard_model.specs.declared.ty.Kind.{the_lemmas}
use Rattle.guard_model.proofs.TypeViews.{type_view_is, component_view_is}
use Rattle.guard_der.specs.Der.{is_constructed}
use Rattle.guard_tables.specs.Demands.{Term}
use Rattle.guard_tables.specs.OfParts.{each_of}
use Rattle.guard_tables.specs.Lay.{lay, implied_of}
use Rattle.guard_tables.specs.NodeViews.{condition_view, implication_view}
use Rattle.guard_tables.specs.Plan.{Body, Plan, Side, plan, asked_of}
use Rattle.guard_tables.specs.TableNodes.{own_tags}
use Rattle.guard_tables.specs.inside.DemandViews.{slot_demands_view, terms_view}
use Rattle.guard_tables.specs.inside.Assembled.{AskedMayBeLaid, body_of_elements, body_of_group, parts_of_group, is_exclusive}
use Rattle.guard_tables.specs.inside.SideViews.{part_side_view}
use Rattle.guard_tables.proofs.Comings.{laid_as, grown_on, nodes_last}
use Rattle.guard_tables.proofs.LaidSteps.{tags_laid, formulas_laid, elements_laid, group_laid, nodes_few, none_more, formulas_are, still_aside, part_may, part_proper, part_more, rest_may}
use Rattle.guard_tables.proofs.LaidTypes.{asked_may}
use Rattle.guard_tables.proofs.AscendingParts.{laid_ascend}
use Rattle.guard_tables.specs.declared.new_nodes.Group.{Group}
use Rattle.guard_tables.specs.declared.demands_of_parts.PartDemands as code
use Rattle.guard_tables.specs.inside.DemandsOfParts.{part_asked, parts_asked, nothing_asked, asked_at, add_terms}
use Rattle.guard_tables.proofs.AskedOfParts.{asked_read, all_added}
use Rattle.guard_tables.proofs.layout.+layout.Goals as goal

pub lay-lay_asked-requires : goal.lay-lay_asked-requires
lay-lay_asked-requires t c = (
  search (rules, the_lemmas),
  subst (λ (kind : AbstractKind). AskedMayBeLaid kind (slot_demands_view c.args.demands.now)) (ap kind_of (type_view_is c.args.ty.now)) (asked_may (type_view c.args.ty.now) (slot_demands_view c.args.demands.now) c.requires),
)

pub lay-returns : goal.lay-returns
lay-returns t c = tags_laid c.args.builder c.in_ok-laid.laid c.deref-2.result.now _ (lay (type_view c.args.ty.now) (slot_demands_view c.args.demands.now))
    (rw (c.deref-2.ensures.value, type_view_is c.args.ty.now) refl) c.in_ok-laid.ensures c.with_tags.result c.with_tags.ensures

pub lay_asked-returns : goal.lay_asked-returns
lay_asked-returns t c = formulas_laid c.args.builder c.in_ok-laid.laid _ _ (λ (b : Body). implied_of (map implication_view c.in_ok-formulas.formulas.implications.items) b) c.in_ok-laid.ensures
    (formulas_are (slot_demands_view c.args.demands.now) (own_tags c.args.tag) (is_constructed (kind_view c.args.kind.now)) (kind_view c.args.kind.now) (terms_view c.deref.result.now) (map implication_view c.in_ok-formulas.formulas.implications.items)
    (ap terms_view c.deref.ensures.value ∙ c.in_ok-formulas.ensures.terms) c.in_ok-formulas.ensures.implications)
    c.with_formulas.result c.with_formulas.ensures

pub lay_elements-returns : goal.lay_elements-returns
lay_elements-returns t c =
    let p = lay (type_view c.args.element.now) (each_of (terms_view c.args.terms.now)) in
    formulas_laid c.args.builder c.in_ok-whole.whole (plan (own_tags c.args.tag) true (body_of_elements c.args.elements p)) (plan (own_tags c.args.tag) true (asked_of (map condition_view c.args.conditions.list.items) (body_of_elements c.args.elements p)))
    (λ (b : Body). asked_of (map condition_view c.args.conditions.list.items) b)
    (elements_laid c.args.builder c.in_ok-laid.laid c.in_ok-whole.whole p c.args.elements c.args.tag
    (laid_as c.args.builder c.in_ok-laid.laid _ p (rw (c.deref.ensures.value, c.in_ok-demands.ensures) refl) c.in_ok-laid.ensures) c.in_ok-whole.ensures)
    refl c.with_conditions.result c.with_conditions.ensures

pub lay_part-invariant_of-result : goal.lay_part-invariant_of-result
lay_part-invariant_of-result t c = record { stands = c.with_side.ensures.node _ _ c.in_ok-laid.laid.stands }

pub lay_part-returns : goal.lay_part-returns
lay_part-returns t c =
    let asked = part_asked c.args.asked.now in
    let p = lay (component_view c.args.comp.now).ty asked.demands in
    let laid = laid_as c.args.builder c.in_ok-laid.laid _ p (rw (c.deref.ensures.value, component_view_is c.args.comp.now) refl) c.in_ok-laid.ensures in
    record {
      grows = laid.grows;
      stands = c.with_side.ensures.spot _ ∙ ap (λ (p : Plan). record { side = part_side_view c.in_ok-side.side; plan = p }) laid.stands ∙ ap (λ (s : Side). record { side = s; plan = p }) c.in_ok-side.ensures;
    }

-- what is asked of the part
own_asked : (group : Group) (all : List Term) (n : ℕ) (vs : List code.PartDemands) (place : ℕ) (v : code.PartDemands) (exclusive : Bool) → exclusive ≡ is_exclusive group
    → parts_asked vs ≡ add_terms exclusive all (replicate n nothing_asked) → place < n → v ≡ get_or vs place v → part_asked v ≡ asked_at (is_exclusive group) place all
own_asked group all n vs place v exclusive same is lt at = asked_read exclusive all n vs place v is lt at ∙ ap (λ (b : Bool). asked_at b place all) same

pub lay_group-index-requires : goal.lay_group-index-requires
lay_group-index-requires t c =
    omega (arith, c.loop-place-test.true, all_added c.is_exclusive.result (terms_view c.args.terms.now) (length c.args.comps.now) c.in_ok-asked.asked.items c.in_ok-asked.ensures, c.in_ok-asked.asked.ok.0)

pub lay_group-lay_part-requires : goal.lay_group-lay_part-requires
lay_group-lay_part-requires t c =
    let comps = c.args.comps.now in
    let place = c.loop-place.place in
    let all = terms_view c.args.terms.now in (
      search (rules, the_lemmas),
      (
        part_may c.args.group comps place c.index-comps-place.result (part_asked c.index.result.now) all c.loop-place-test.true c.index-comps-place.is
            (own_asked c.args.group all (length comps) c.in_ok-asked.asked.items place c.index.result.now c.is_exclusive.result c.is_exclusive.ensures c.in_ok-asked.ensures c.loop-place-test.true c.index.ensures)
            c.loop-place.invariant.rest,
        part_proper comps place c.index-comps-place.result all c.loop-place-test.true c.index-comps-place.is c.loop-place.invariant.rest,
      ),
    )

pub lay_group-loop-place-preserved : goal.lay_group-loop-place-preserved
lay_group-loop-place-preserved t c =
    let comps = c.args.comps.now in
    let place = c.loop-place.place in
    let all = terms_view c.args.terms.now in
    let builder = c.loop-place.builder in
    let part = c.in_ok-part.part in
    record {
      grows = grown_on c.args.builder builder part.builder c.loop-place.invariant.grows c.in_ok-part.ensures.grows;
      nodes = rw c.in_ok-push.ensures.items (nodes_last c.loop-place.nodes.items part.node _ _ (still_aside c.loop-place.nodes.items builder part.builder c.loop-place.invariant.nodes c.in_ok-part.ensures.grows) part.stands);
      stand = rw c.in_ok-push.ensures.items (part_more builder c.loop-place.nodes.items part c.args.group comps place c.index-comps-place.result (part_asked c.index.result.now) all c.loop-place-test.true c.index-comps-place.is
          (own_asked c.args.group all (length comps) c.in_ok-asked.asked.items place c.index.result.now c.is_exclusive.result c.is_exclusive.ensures c.in_ok-asked.ensures c.loop-place-test.true c.index.ensures)
          c.loop-place.invariant.nodes c.in_ok-part.ensures _ c.loop-place.invariant.stand);
      rest = rest_may comps place c.index-comps-place.result all c.loop-place-test.true c.index-comps-place.is c.loop-place.invariant.rest;
    }

-- the parts of all, once none is left
pub lay_group-as_parts-requires : goal.lay_group-as_parts-requires
lay_group-as_parts-requires t c =
    let cs = components_of (map component_view c.args.comps.now) in
    let terms = terms_view c.args.terms.now in
    let stand = none_more c.loop-place.builder c.loop-place.nodes.items c.args.group c.args.comps.now c.loop-place.place terms _ c.loop-place-test.false c.loop-place.invariant.stand in
    record {
      come = c.loop-place.invariant.nodes;
      few = nodes_few c.loop-place.builder c.loop-place.nodes.items c.args.group cs terms stand c.requires.few;
      order = λ e. laid_ascend c.loop-place.builder c.loop-place.nodes.items c.args.group cs terms stand ∙ sym c.ascend.ensures ∙ e;
    }

pub lay_group-returns : goal.lay_group-returns
lay_group-returns t c =
    let ps = parts_of_group c.args.group 0 (components_of (map component_view c.args.comps.now)) (terms_view c.args.terms.now) in
    formulas_laid c.args.builder c.in_ok-whole.whole (plan (own_tags c.args.tag) true (body_of_group c.args.group ps)) (plan (own_tags c.args.tag) true (asked_of (map condition_view c.args.conditions.list.items) (body_of_group c.args.group ps)))
    (λ (b : Body). asked_of (map condition_view c.args.conditions.list.items) b)
    (group_laid c.args.builder c.loop-place.builder c.loop-place.nodes.items c.in_ok-whole.whole ps c.args.group c.args.tag c.loop-place.invariant.grows
    (none_more c.loop-place.builder c.loop-place.nodes.items c.args.group c.args.comps.now c.loop-place.place (terms_view c.args.terms.now) ps c.loop-place-test.false c.loop-place.invariant.stand) c.in_ok-whole.ensures)
    refl c.with_conditions.result c.with_conditions.ensures
