use Rattle.std.proofs.Common.{◌≡◌, ◌∙◌, ◌+◌, ◌-◌, ◌<◌, ◌≤◌, Bool, true, false, vec_len, ap, sym, subst, arith, drop, Some, None, Option, ℕ, get_or, ◌∷◌, [], add-one, map, List}
use Rattle.std.specs.Prelude.{◌||◌, nat_eq}
use Rattle.std.proofs.lemmas.List.{take_rest}
use Rattle.std.proofs.lemmas.Bool.{cond-true, cond-false, ne_eqb}
use Rattle.guard_der.specs.Fits.{descends}
use Rattle.guard_tables.specs.declared.slots.Slots.{Slots}
use Rattle.guard_tables.specs.declared.node.Cold.{Cold}
use Rattle.guard_tables.specs.TableNodes.{spot_at, body_at, parts_between, has_inner, conditions_of}
use Rattle.guard_tables.specs.NodeViews.{implication_view}
use Rattle.guard_tables.specs.Marking.{conditions_marked}
use Rattle.guard_tables.specs.Formulas.{implied}
use Rattle.guard_tables.specs.NodesView.{spots_in}
use Rattle.guard_reader.specs.Fronts.{Front, begins, element_in, front_cut, front_of}
use Rattle.guard_reader.specs.Judging.{is_read, fields_judged, part_at, outside, then_marked, whole_facts, size_in, ordered}
use Rattle.guard_reader.specs.inside.Answers.{Answers}
use Rattle.guard_reader.specs.inside.Members.{AreRead}
use Rattle.guard_reader.specs.inside.NodeParts.{has_layers, pass_at, sight_at}
use Rattle.guard_reader.specs.inside.Ranks.{AreBelow}
use Rattle.guard_reader.proofs.Elements.{bind_some, bind_none}
use Rattle.guard_reader.proofs.FrontSteps.{front_within}
use Rattle.guard_reader.proofs.NodeTags.{identifier_is, is_at, kind_of_choice}
use Rattle.guard_reader.proofs.Ranks.{near_cut}
use Rattle.guard_reader.proofs.Passes.{element_here, last_element, no_element, none_left, none_ordered, not_ordered, one_element, one_ordered}
use Rattle.guard_reader.proofs.AscendingSets.{set_of_parts}
use Rattle.guard_reader.proofs.SetSteps.{set_judged, kind_of_set, no_bit, no_tag, no_member, one_member, members_over, judged_none, judged_again, judged_new}
use Rattle.guard_reader.proofs.Steps.{yes, no, at_end, absent_there, not_whole, present_there, refused, sent, chosen_more, chosen_alone, chosen_here, chosen_broken, chosen_later}
use Rattle.guard_tables.proofs.Spots.{node_at, there_at, cold_at}
use Rattle.guard_reader.proofs.NodeSteps.{list_judged, simple_judged, series_judged, formula_judged, fields_step, is_of_formula, plain_at, plain_present, one_here, sees_within, inside_bare, inside_found, inside_none, wrapper_judged, asked_judged, is_of_asked, set_of_judged, choice_judged, choice_step, choice_end}
use Rattle.guard_reader.proofs.walking.+walking.Goals as goal

-- ---- contents

pub contents-node_contents-requires : goal.contents-node_contents-requires
contents-node_contents-requires t c = (omega arith, (c.requires, c.index.ensures))

pub node_contents-items-requires : goal.node_contents-items-requires
node_contents-items-requires t c =
    let n = node_at c.args.table.now c.args.at c.args.node.now c.requires.room c.requires.node in
    let inner = n.node.inner (ap has_inner c.in-List.is) in
    (omega (arith, inner), omega (arith, inner, c.requires.room))

pub node_contents-series-requires : goal.node_contents-series-requires
node_contents-series-requires t c =
    let n = node_at c.args.table.now c.args.at c.args.node.now c.requires.room c.requires.node in
    (omega (arith, n.node.before), omega (arith, n.node.before, c.requires.room))

pub node_contents-returns-in-Series : goal.node_contents-returns-in-Series
node_contents-returns-in-Series t c =
    let n = node_at c.args.table.now c.args.at c.args.node.now c.requires.room c.requires.node in
    subst (λ (r : Option Slots). Answers c.series.result c.series.new.failed r) (sym (series_judged c.args.table.now c.args.at c.args.node.now n c.in-Series.is c.args.inside.now c.args.failed.now)) c.series.ensures

pub node_contents-asked-requires : goal.node_contents-asked-requires
node_contents-asked-requires t c = (omega arith, (c.requires.room, record { node = c.args.node.now; there = there_at c.args.table.now c.args.at c.args.node.now c.requires.room c.requires.node; kind = c.in-Asked.is }))

pub node_contents-formula-requires : goal.node_contents-formula-requires
node_contents-formula-requires t c = (omega arith, (c.requires.room, record { node = c.args.node.now; there = there_at c.args.table.now c.args.at c.args.node.now c.requires.room c.requires.node; kind = c.in-Formula.is }))

pub node_contents-returns-in-List : goal.node_contents-returns-in-List
node_contents-returns-in-List t c =
    let n = node_at c.args.table.now c.args.at c.args.node.now c.requires.room c.requires.node in
    subst (λ (r : Option Slots). Answers c.items.result c.items.new.failed r) (sym (list_judged c.args.table.now c.args.at c.args.node.now n c.in-List.is c.args.inside.now c.args.failed.now)) c.items.ensures

pub node_contents-returns-in-Simple : goal.node_contents-returns-in-Simple
node_contents-returns-in-Simple t c =
    let n = node_at c.args.table.now c.args.at c.args.node.now c.requires.room c.requires.node in
    subst (λ (r : Option Slots). Answers c.simple.result c.simple.new.failed r) (sym (simple_judged c.args.table.now c.args.at c.args.node.now c.index.result.now c.in-Simple.kind n c.in-Simple.is c.requires.room c.index.ensures c.args.inside.now c.args.failed.now)) c.simple.ensures

pub node_contents-set-requires : goal.node_contents-set-requires
node_contents-set-requires t c = (omega arith, (c.requires.room, record { node = c.args.node.now; there = there_at c.args.table.now c.args.at c.args.node.now c.requires.room c.requires.node; kind = c.in-Set.is }))

pub node_contents-set_of-requires : goal.node_contents-set_of-requires
node_contents-set_of-requires t c =
    let n = node_at c.args.table.now c.args.at c.args.node.now c.requires.room c.requires.node in
    let inner = n.node.inner (ap has_inner c.in-SetOf.is) in
    (omega (arith, inner), omega (arith, inner, c.requires.room))

pub node_contents-returns-in-SetOf : goal.node_contents-returns-in-SetOf
node_contents-returns-in-SetOf t c =
    let n = node_at c.args.table.now c.args.at c.args.node.now c.requires.room c.requires.node in
    subst (λ (r : Option Slots). Answers c.set_of.result c.set_of.new.failed r) (sym (set_of_judged c.args.table.now c.args.at c.args.node.now n c.in-SetOf.is c.args.inside.now c.args.failed.now)) c.set_of.ensures

pub node_contents-inner_contents-requires : goal.node_contents-inner_contents-requires
node_contents-inner_contents-requires t c =
    let n = node_at c.args.table.now c.args.at c.args.node.now c.requires.room c.requires.node in
    let inner = n.node.inner (ap has_inner c.in-Wrapper.is) in
    (omega (arith, inner), omega (arith, inner, c.requires.room))

pub node_contents-returns-in-Wrapper : goal.node_contents-returns-in-Wrapper
node_contents-returns-in-Wrapper t c =
    let n = node_at c.args.table.now c.args.at c.args.node.now c.requires.room c.requires.node in
    subst (λ (r : Option Slots). Answers c.inner_contents.result c.inner_contents.new.failed r) (sym (wrapper_judged c.args.table.now c.args.at c.args.node.now n c.in-Wrapper.is c.args.inside.now c.args.failed.now)) c.inner_contents.ensures

pub node_contents-choice-requires : goal.node_contents-choice-requires
node_contents-choice-requires t c = (omega arith, (c.requires.room, record { node = c.args.node.now; there = there_at c.args.table.now c.args.at c.args.node.now c.requires.room c.requires.node; kind = c.in-Choice.is }))

-- ---- inside the outermost tag

pub within_tag-within_node-requires : goal.within_tag-within_node-requires
within_tag-within_node-requires t c = (omega arith, (c.requires, c.index.ensures))

pub within_node-returns : goal.within_node-returns
within_node-returns t c =
    let h = c.args.node.now in
    let n = node_at c.args.table.now c.args.at h c.requires.room c.requires.node in
    subst (λ (r : Option Slots). Answers c.node_contents.result c.node_contents.new.failed r) (sym (inside_bare c.args.table.now c.args.at h n (sym c.has_layers.ensures ∙ c.if-has_layers.false) c.args.inside.now c.args.failed.now)) c.node_contents.ensures

pub layered-returns-in-Some : goal.layered-returns-in-Some
layered-returns-in-Some t c =
    subst (λ (r : Option Slots). Answers c.contents.result c.contents.new.failed r) (sym (inside_found c.args.table.now c.args.at c.args.inside.now c.in-Some.octets.now c.args.failed.now c.in-Some.ensures)) c.contents.ensures

pub layered-returns-in-None : goal.layered-returns-in-None
layered-returns-in-None t c = inside_none c.args.table.now c.args.at c.args.inside.now c.args.failed.now c.in-None.ensures

-- ---- SEQUENCE

pub series::series-fields-requires : goal.series::series-fields-requires
series::series-fields-requires t c = (omega arith, c.requires)

pub series::fields-loop-k-init : goal.series::fields-loop-k-init
series::fields-loop-k-init t c =
    let count : c.args.first + c.args.count - c.args.first ≡ c.args.count = omega arith in
    ap (λ (n : ℕ). fields_judged (parts_between (spots_in c.args.table.now) c.args.first n) c.args.inside.now c.args.failed.now) count

pub series::fields-begun_part-requires : goal.series::fields-begun_part-requires
series::fields-begun_part-requires t c =
    let room : c.loop-k.k < vec_len c.args.table.now.hots = omega (arith, c.loop-k-test.true, c.requires) in
    let node = is_at c.args.table.now c.as_slice-hots.result.now c.loop-k.k _ c.as_slice-hots.ensures.value room in
    (omega (arith, c.loop-k-test.true), (room, (node, (c.begins.ensures.small c.if-begins.true, sym c.begins.ensures.same ∙ c.if-begins.true))))

pub series::fields-other_part-requires : goal.series::fields-other_part-requires
series::fields-other_part-requires t c =
    let room : c.loop-k.k < vec_len c.args.table.now.hots = omega (arith, c.loop-k-test.true, c.requires) in
    record {
      room = room;
      node = is_at c.args.table.now c.as_slice-hots.result.now c.loop-k.k _ c.as_slice-hots.ensures.value room;
      near = ne_eqb _ 256 c.if-node-eq256.false;
      away = sym c.begins.ensures.same ∙ c.if-begins.false;
    }

pub series::fields-far_fields-requires : goal.series::fields-far_fields-requires
series::fields-far_fields-requires t c = (omega (arith, c.loop-k-test.true), omega (arith, c.loop-k-test.true, c.requires))

pub series::fields-returns-then-node-eq256 : goal.series::fields-returns-then-node-eq256
series::fields-returns-then-node-eq256 t c = subst (λ (r : Option Slots). Answers c.far_fields.result c.far_fields.new.failed r) c.loop-k.invariant c.far_fields.ensures

pub series::fields-returns-in_default : goal.series::fields-returns-in_default
series::fields-returns-in_default t c =
    sym c.loop-k.invariant
    ∙ fields_step c.args.table.now c.loop-k.k (c.args.first + c.args.count) c.loop-k.rest.now c.loop-k.failed c.loop-k-test.true c.requires
    ∙ bind_none _ _ (sym c.in_default.ensures)

pub series::fields-loop-k-preserved-then-begins : goal.series::fields-loop-k-preserved-then-begins
series::fields-loop-k-preserved-then-begins t c =
    let end = c.args.first + c.args.count in
    rw add-one (sym (fields_step c.args.table.now c.loop-k.k end c.loop-k.rest.now c.loop-k.failed c.loop-k-test.true c.requires
    ∙ bind_some _ _ _ (sym c.in-Some.ensures)) ∙ c.loop-k.invariant)

pub series::fields-returns-in_default-other_part : goal.series::fields-returns-in_default-other_part
series::fields-returns-in_default-other_part t c =
    sym c.loop-k.invariant
    ∙ fields_step c.args.table.now c.loop-k.k (c.args.first + c.args.count) c.loop-k.rest.now c.loop-k.failed c.loop-k-test.true c.requires
    ∙ bind_none _ _ (sym c.in_default-other_part.ensures)

pub series::fields-loop-k-preserved : goal.series::fields-loop-k-preserved
series::fields-loop-k-preserved t c =
    let end = c.args.first + c.args.count in
    rw add-one (sym (fields_step c.args.table.now c.loop-k.k end c.loop-k.rest.now c.loop-k.failed c.loop-k-test.true c.requires
    ∙ bind_some _ _ _ (sym c.in-Some-other_part.ensures)) ∙ c.loop-k.invariant)

pub series::fields-returns : goal.series::fields-returns
series::fields-returns t c =
    let end = c.args.first + c.args.count in
    let spots = spots_in c.args.table.now in
    let over : end - c.loop-k.k ≡ 0 = omega (arith, c.loop-k-test.false) in
    subst (λ (r : Option Slots). Answers c.is_empty.result c.loop-k.failed r) (sym (ap (λ (n : ℕ). fields_judged (parts_between spots c.loop-k.k n) c.loop-k.rest.now c.loop-k.failed) over) ∙ c.loop-k.invariant) (at_end c.is_empty.result c.loop-k.rest.now c.loop-k.failed c.is_empty.ensures)

pub series::far_fields-loop-k-init : goal.series::far_fields-loop-k-init
series::far_fields-loop-k-init t c =
    let count : c.args.first + c.args.count - c.args.first ≡ c.args.count = omega arith in
    ap (λ (n : ℕ). fields_judged (parts_between (spots_in c.args.table.now) c.args.first n) c.args.inside.now c.args.failed.now) count

pub series::far_fields-part-requires : goal.series::far_fields-part-requires
series::far_fields-part-requires t c = (omega (arith, c.loop-k-test.true), omega (arith, c.loop-k-test.true, c.requires))

pub series::far_fields-returns-in_default : goal.series::far_fields-returns-in_default
series::far_fields-returns-in_default t c =
    sym c.loop-k.invariant
    ∙ fields_step c.args.table.now c.loop-k.k (c.args.first + c.args.count) c.loop-k.rest.now c.loop-k.failed c.loop-k-test.true c.requires
    ∙ bind_none _ _ (sym c.in_default.ensures)

pub series::far_fields-loop-k-preserved : goal.series::far_fields-loop-k-preserved
series::far_fields-loop-k-preserved t c =
    let end = c.args.first + c.args.count in
    rw add-one (sym (fields_step c.args.table.now c.loop-k.k end c.loop-k.rest.now c.loop-k.failed c.loop-k-test.true c.requires
    ∙ bind_some _ _ _ (sym c.in-Some.ensures)) ∙ c.loop-k.invariant)

pub series::far_fields-returns : goal.series::far_fields-returns
series::far_fields-returns t c =
    let end = c.args.first + c.args.count in
    let spots = spots_in c.args.table.now in
    let over : end - c.loop-k.k ≡ 0 = omega (arith, c.loop-k-test.false) in
    subst (λ (r : Option Slots). Answers c.is_empty.result c.loop-k.failed r) (sym (ap (λ (n : ℕ). fields_judged (parts_between spots c.loop-k.k n) c.loop-k.rest.now c.loop-k.failed) over) ∙ c.loop-k.invariant) (at_end c.is_empty.result c.loop-k.rest.now c.loop-k.failed c.is_empty.ensures)

-- ---- what is asked of a whole value

pub asked-contents-requires : goal.asked-contents-requires
asked-contents-requires t c =
    let n = node_at c.args.table.now c.args.at c.index-node.result.now c.requires.room c.index-node.ensures in
    let inner = n.node.inner (ap has_inner (is_of_asked c.args.table.now c.args.at c.index-node.result.now c.requires.kind c.requires.room c.index-node.ensures)) in
    (omega (arith, inner), omega (arith, inner, c.requires.room))

pub asked-returns-then-not-contents : goal.asked-returns-then-not-contents
asked-returns-then-not-contents t c =
    let h = c.index-node.result.now in
    let n = node_at c.args.table.now c.args.at h c.requires.room c.index-node.ensures in
    asked_judged c.args.table.now c.args.at h n (is_of_asked c.args.table.now c.args.at h c.requires.kind c.requires.room c.index-node.ensures) c.args.inside.now c.args.failed.now
    ∙ ap (then_marked (conditions_of n.cold) (whole_facts (size_in (body_at (spots_in c.args.table.now) h.first) c.args.inside.now) c.args.inside.now)) (no c.contents.result c.contents.new.failed _ c.contents.ensures c.if-not-contents.true)

pub asked-size_of-size-requires : goal.asked-size_of-size-requires
asked-size_of-size-requires t c =
    let n = node_at c.args.table.now c.args.at c.index-node.result.now c.requires.room c.index-node.ensures in
    let inner = n.node.inner (ap has_inner (is_of_asked c.args.table.now c.args.at c.index-node.result.now c.requires.kind c.requires.room c.index-node.ensures)) in
    omega (arith, inner, c.requires.room)

pub asked-returns : goal.asked-returns
asked-returns t c =
    let h = c.index-node.result.now in
    let os = c.args.inside.now in
    let n = node_at c.args.table.now c.args.at h c.requires.room c.index-node.ensures in
    let size = size_in (body_at (spots_in c.args.table.now) h.first) os in
    asked_judged c.args.table.now c.args.at h n (is_of_asked c.args.table.now c.args.at h c.requires.kind c.requires.room c.index-node.ensures) os c.args.failed.now
    ∙ ap (then_marked (conditions_of n.cold) (whole_facts size os)) (yes c.contents.result c.contents.new.failed _ c.contents.ensures c.if-not-contents.false)
    ∙ ap (λ (k : Cold). Some (conditions_marked (conditions_of k) (whole_facts size os) c.contents.new.failed)) (cold_at c.args.table.now c.args.at h c.index.result.now n c.requires.room c.index.ensures)
    ∙ ap (λ (x : Option ℕ). Some (conditions_marked (conditions_of c.index.result.now) (whole_facts x os) c.contents.new.failed)) (sym c.size_of-size.ensures)
    ∙ ap (λ (m : Slots). Some m) (sym (rw c.deref.ensures.value at c.mark_whole.ensures))

-- ---- formulas

pub formula-contents-requires : goal.formula-contents-requires
formula-contents-requires t c =
    let n = node_at c.args.table.now c.args.at c.index-node.result.now c.requires.room c.index-node.ensures in
    let inner = n.node.inner (ap has_inner (is_of_formula c.args.table.now c.args.at c.index-node.result.now c.requires.kind c.requires.room c.index-node.ensures)) in
    (omega (arith, inner), omega (arith, inner, c.requires.room))

pub formula-returns-then-not-contents : goal.formula-returns-then-not-contents
formula-returns-then-not-contents t c =
    let n = node_at c.args.table.now c.args.at c.index-node.result.now c.requires.room c.index-node.ensures in
    formula_judged c.args.table.now c.args.at c.index-node.result.now n (is_of_formula c.args.table.now c.args.at c.index-node.result.now c.requires.kind c.requires.room c.index-node.ensures) c.args.inside.now c.args.failed.now
    ∙ ap (outside (map implication_view n.cold.implications.items) c.args.failed.now) (no c.contents.result c.contents.new.failed _ (rw c.none-inner.ensures at c.contents.ensures) c.if-not-contents.true)

pub formula-returns : goal.formula-returns
formula-returns t c =
    let n = node_at c.args.table.now c.args.at c.index-node.result.now c.requires.room c.index-node.ensures in
    let cold = cold_at c.args.table.now c.args.at c.index-node.result.now c.index-cold.result.now n c.requires.room c.index-cold.ensures in
    formula_judged c.args.table.now c.args.at c.index-node.result.now n (is_of_formula c.args.table.now c.args.at c.index-node.result.now c.requires.kind c.requires.room c.index-node.ensures) c.args.inside.now c.args.failed.now
    ∙ ap (outside (map implication_view n.cold.implications.items) c.args.failed.now) (yes c.contents.result c.contents.new.failed _ (rw c.none-inner.ensures at c.contents.ensures) c.if-not-contents.false)
    ∙ ap (λ (k : Cold). Some (implied (map implication_view k.implications.items) c.contents.new.failed c.args.failed.now)) cold
    ∙ ap (λ (m : Slots). Some m) (sym (rw c.deref.ensures.value at c.add_implied.ensures))

-- ---- SEQUENCE OF

pub lists::items-returns-then-is_empty : goal.lists::items-returns-then-is_empty
lists::items-returns-then-is_empty t c =
    sym (c.after_one_plain-rest.ensures c.args.failed.now)
    ∙ none_left (sight_at (spots_in c.args.table.now) c.args.first) _ c.after_one_plain-rest.result.now c.args.failed.now (sym c.is_empty.ensures ∙ c.if-is_empty.true)

pub lists::items-list-requires : goal.lists::items-list-requires
lists::items-list-requires t c = (omega arith, c.requires)

pub lists::items-returns : goal.lists::items-returns
lists::items-returns t c = subst (λ (r : Option Slots). Answers c.list.result c.list.new.failed r) (c.after_one_plain-rest.ensures c.args.failed.now) c.list.ensures

pub lists::list-returns-in_default : goal.lists::list-returns-in_default
lists::list-returns-in_default t c =
    sym c.loop-rest.invariant.same
    ∙ no_element (sight_at (spots_in c.args.table.now) c.loop-rest.at) _ c.loop-rest.rest.now c.loop-rest.failed (sym c.is_empty.ensures ∙ c.loop-rest-test.true) (ap element_in (sym c.front_at.ensures) ∙ sym c.in_default.ensures)

pub lists::list-after_plain-rest-requires-in-List : goal.lists::list-after_plain-rest-requires-in-List
lists::list-after_plain-rest-requires-in-List t c =
    let n = node_at c.args.table.now c.loop-rest.at c.index-item.result.now (omega (arith, c.loop-rest.invariant.within, c.requires)) c.index-item.ensures in
    let inner = n.node.inner (ap has_inner c.in-List.is) in
    omega (arith, inner, c.loop-rest.invariant.within, c.requires)

pub lists::list-loop-rest-smaller-then-is_last : goal.lists::list-loop-rest-smaller-then-is_last
lists::list-loop-rest-smaller-then-is_last t c =
    let n = node_at c.args.table.now c.loop-rest.at c.index-item.result.now (omega (arith, c.loop-rest.invariant.within, c.requires)) c.index-item.ensures in
    let inner = n.node.inner (ap has_inner c.in-List.is) in
    let there = element_here _ _ (ap element_in (sym c.front_at.ensures) ∙ sym c.in-Some.ensures) in
    let w = front_within (spot_at (spots_in c.args.table.now) c.loop-rest.at).plan c.loop-rest.rest.now c.in-Some.content.now c.in-Some.next.now there in
    omega (arith, inner, c.after_plain-rest-in-List.ensures.shorter, w.inside_room)

pub lists::list-loop-rest-smaller : goal.lists::list-loop-rest-smaller
lists::list-loop-rest-smaller t c =
    let there = element_here _ _ (ap element_in (sym c.front_at.ensures) ∙ sym c.in-Some.ensures) in
    let w = front_within (spot_at (spots_in c.args.table.now) c.loop-rest.at).plan c.loop-rest.rest.now c.in-Some.content.now c.in-Some.next.now there in
    omega (arith, c.after_plain-rest-in_default-kind.ensures.shorter, w.rest_room)

pub lists::list-loop-rest-preserved-then-is_last : goal.lists::list-loop-rest-preserved-then-is_last
lists::list-loop-rest-preserved-then-is_last t c =
    let k = c.loop-rest.at in
    let spots = spots_in c.args.table.now in
    let n = node_at c.args.table.now k c.index-item.result.now (omega (arith, c.loop-rest.invariant.within, c.requires)) c.index-item.ensures in
    let some = sym c.is_empty.ensures ∙ c.loop-rest-test.true in
    let there = element_here _ _ (ap element_in (sym c.front_at.ensures) ∙ sym c.in-Some.ensures) in
    let inner = n.node.inner (ap has_inner c.in-List.is) in
    record {
      within = omega (arith, inner, c.loop-rest.invariant.within);
      same = c.after_plain-rest-in-List.ensures.same c.loop-rest.failed
          ∙ sym (list_judged c.args.table.now k c.index-item.result.now n c.in-List.is c.in-Some.content.now c.loop-rest.failed)
          ∙ sym (inside_bare c.args.table.now k c.index-item.result.now n (ap has_layers c.in-List.is) c.in-Some.content.now c.loop-rest.failed)
          ∙ sym (last_element (sight_at spots k) (pass_at spots k) c.loop-rest.rest.now c.in-Some.content.now c.in-Some.next.now c.loop-rest.failed (sees_within c.args.table.now k) some there (sym c.is_empty-is_last.ensures ∙ c.if-is_last.true))
          ∙ c.loop-rest.invariant.same;
    }

pub lists::list-returns-then-not-within_tag : goal.lists::list-returns-then-not-within_tag
lists::list-returns-then-not-within_tag t c =
    let k = c.loop-rest.at in
    let spots = spots_in c.args.table.now in
    let some = sym c.is_empty.ensures ∙ c.loop-rest-test.true in
    let there = element_here _ _ (ap element_in (sym c.front_at.ensures) ∙ sym c.in-Some.ensures) in
    sym c.loop-rest.invariant.same
    ∙ one_element (sight_at spots k) (pass_at spots k) c.loop-rest.rest.now c.in-Some.content.now c.in-Some.next.now c.loop-rest.failed (sees_within c.args.table.now k) some there
    ∙ bind_none _ _ (no c.within_tag.result c.within_tag.new.failed _ c.within_tag.ensures c.if-not-within_tag.true)

pub lists::list-loop-rest-preserved : goal.lists::list-loop-rest-preserved
lists::list-loop-rest-preserved t c =
    let k = c.loop-rest.at in
    let spots = spots_in c.args.table.now in
    let some = sym c.is_empty.ensures ∙ c.loop-rest-test.true in
    let there = element_here _ _ (ap element_in (sym c.front_at.ensures) ∙ sym c.in-Some.ensures) in
    record {
      within = c.loop-rest.invariant.within;
      same = c.after_plain-rest-in_default-kind.ensures.same c.within_tag.new.failed
          ∙ sym (one_element (sight_at spots k) (pass_at spots k) c.loop-rest.rest.now c.in-Some.content.now c.in-Some.next.now c.loop-rest.failed (sees_within c.args.table.now k) some there
          ∙ bind_some _ _ _ (yes c.within_tag.result c.within_tag.new.failed _ c.within_tag.ensures c.if-not-within_tag.false))
          ∙ c.loop-rest.invariant.same;
    }

pub lists::list-returns : goal.lists::list-returns
lists::list-returns t c = sym c.loop-rest.invariant.same ∙ none_left (sight_at (spots_in c.args.table.now) c.loop-rest.at) _ c.loop-rest.rest.now c.loop-rest.failed (sym c.is_empty.ensures ∙ c.loop-rest-test.false)

-- ---- SET OF

pub lists::set_of-returns-in_default : goal.lists::set_of-returns-in_default
lists::set_of-returns-in_default t c =
    sym c.loop-before.invariant
    ∙ not_ordered (sight_at (spots_in c.args.table.now) c.args.first) _ c.loop-before.before.now c.loop-before.rest.now c.loop-before.failed (sym c.is_empty.ensures ∙ c.loop-before-test.true) (ap element_in (sym c.front_at.ensures) ∙ sym c.in_default.ensures)

pub lists::set_of-returns-then-not-item : goal.lists::set_of-returns-then-not-item
lists::set_of-returns-then-not-item t c =
    let sight = sight_at (spots_in c.args.table.now) c.args.first in
    let pass = pass_at (spots_in c.args.table.now) c.args.first in
    let some = sym c.is_empty.ensures ∙ c.loop-before-test.true in
    let there = element_here _ _ (ap element_in (sym c.front_at.ensures) ∙ sym c.in-Some.ensures) in
    let step = one_ordered sight pass c.loop-before.before.now c.loop-before.rest.now c.in-Some.content.now c.in-Some.next.now c.loop-before.failed (sees_within c.args.table.now c.args.first) some there in
    sym c.loop-before.invariant ∙ step ∙ bind_none _ _ (no c.item.result c.item.new.failed _ c.item.ensures c.if-not-item.true)

pub lists::set_of-front_of-element-requires : goal.lists::set_of-front_of-element-requires
lists::set_of-front_of-element-requires t c =
    let there = element_here _ _ (ap element_in (sym c.front_at.ensures) ∙ sym c.in-Some.ensures) in
    let w = front_within (spot_at (spots_in c.args.table.now) c.args.first).plan c.loop-before.rest.now c.in-Some.content.now c.in-Some.next.now there in
    omega (arith, w.rest_room)

pub lists::set_of-returns-then-descends : goal.lists::set_of-returns-then-descends
lists::set_of-returns-then-descends t c =
    let sight = sight_at (spots_in c.args.table.now) c.args.first in
    let pass = pass_at (spots_in c.args.table.now) c.args.first in
    let some = sym c.is_empty.ensures ∙ c.loop-before-test.true in
    let there = element_here _ _ (ap element_in (sym c.front_at.ensures) ∙ sym c.in-Some.ensures) in
    let step = one_ordered sight pass c.loop-before.before.now c.loop-before.rest.now c.in-Some.content.now c.in-Some.next.now c.loop-before.failed (sees_within c.args.table.now c.args.first) some there in
    let tested = ap (descends c.loop-before.before.now) (sym c.front_of-element.ensures) ∙ sym c.descends.ensures ∙ c.if-descends.true in
    sym c.loop-before.invariant ∙ step ∙ bind_some _ _ _ (yes c.item.result c.item.new.failed _ c.item.ensures c.if-not-item.false)
    ∙ cond-true (descends c.loop-before.before.now (front_of c.loop-before.rest.now c.in-Some.next.now)) None _ tested

pub lists::set_of-loop-before-smaller : goal.lists::set_of-loop-before-smaller
lists::set_of-loop-before-smaller t c =
    let there = element_here _ _ (ap element_in (sym c.front_at.ensures) ∙ sym c.in-Some.ensures) in
    let w = front_within (spot_at (spots_in c.args.table.now) c.args.first).plan c.loop-before.rest.now c.in-Some.content.now c.in-Some.next.now there in
    w.rest_room

pub lists::set_of-loop-before-preserved : goal.lists::set_of-loop-before-preserved
lists::set_of-loop-before-preserved t c =
    let sight = sight_at (spots_in c.args.table.now) c.args.first in
    let pass = pass_at (spots_in c.args.table.now) c.args.first in
    let some = sym c.is_empty.ensures ∙ c.loop-before-test.true in
    let there = element_here _ _ (ap element_in (sym c.front_at.ensures) ∙ sym c.in-Some.ensures) in
    let step = one_ordered sight pass c.loop-before.before.now c.loop-before.rest.now c.in-Some.content.now c.in-Some.next.now c.loop-before.failed (sees_within c.args.table.now c.args.first) some there in
    let tested = ap (descends c.loop-before.before.now) (sym c.front_of-element.ensures) ∙ sym c.descends.ensures ∙ c.if-descends.false in
    ap (λ (xs : List ℕ). ordered sight pass xs c.in-Some.next.now c.item.new.failed) c.front_of-element.ensures
    ∙ sym (step ∙ bind_some _ _ _ (yes c.item.result c.item.new.failed _ c.item.ensures c.if-not-item.false)
    ∙ cond-false (descends c.loop-before.before.now (front_of c.loop-before.rest.now c.in-Some.next.now)) None _ tested)
    ∙ c.loop-before.invariant

pub lists::set_of-returns : goal.lists::set_of-returns
lists::set_of-returns t c = sym c.loop-before.invariant ∙ none_ordered (sight_at (spots_in c.args.table.now) c.args.first) _ c.loop-before.before.now c.loop-before.rest.now c.loop-before.failed (sym c.is_empty.ensures ∙ c.loop-before-test.false)

pub lists::item-returns-then-is_plain : goal.lists::item-returns-then-is_plain
lists::item-returns-then-is_plain t c =
    let n = node_at c.args.table.now c.args.at c.index.result.now c.requires c.index.ensures in
    (plain_at c.args.table.now c.args.at c.index.result.now n c.args.inside.now c.args.failed.now (c.is_plain.ensures c.if-is_plain.true)).1

-- ---- components

pub series::part-far_part-requires : goal.series::part-far_part-requires
series::part-far_part-requires t c = (omega arith, c.requires)

pub series::part-near_part-requires : goal.series::part-near_part-requires
series::part-near_part-requires t c = (omega arith, (c.requires, (c.index-node.ensures, ne_eqb c.index-node.result.now.identifier 256 c.if-node-eq256.false)))

pub series::near_part-begun_part-requires : goal.series::near_part-begun_part-requires
series::near_part-begun_part-requires t c = (omega arith, (c.requires.room, (c.requires.node, (c.begins.ensures.small c.if-begins.true, sym c.begins.ensures.same ∙ c.if-begins.true))))

pub series::near_part-other_part-requires : goal.series::near_part-other_part-requires
series::near_part-other_part-requires t c =
    record { room = c.requires.room; node = c.requires.node; near = c.requires.near; away = sym c.begins.ensures.same ∙ c.if-begins.false }

pub series::begun_part-returns-then-begins_plainly : goal.series::begun_part-returns-then-begins_plainly
series::begun_part-returns-then-begins_plainly t c =
    let h = c.args.node.now in
    let n = node_at c.args.table.now c.args.at h c.requires.room c.requires.node in
    let o = c.begins_plainly.ensures c.if-begins_plainly.true in
    let one = get_or c.args.octets.now 2 0 ∷ [] in
    let plain = plain_at c.args.table.now c.args.at h n one c.args.failed.now o.small in
    let side = (spot_at (spots_in c.args.table.now) c.args.at).side in
    let pass = pass_at (spots_in c.args.table.now) c.args.at in
    rw (take_rest c.args.octets.now 3) (sym (present_there side pass c.args.octets.now c.args.failed.now one (drop 3 c.args.octets.now) _ (Some c.args.failed.now)
    (sym (one_here c.args.table.now c.args.at h c.args.octets.now n o)) (sent side pass one c.args.failed.now c.args.failed.now plain.0 ∙ plain.1)))

pub series::begun_part-cut_part-requires : goal.series::begun_part-cut_part-requires
series::begun_part-cut_part-requires t c = (omega arith, (c.requires.room, c.requires.node))

pub series::begun_part-returns : goal.series::begun_part-returns
series::begun_part-returns t c =
    let h = c.args.node.now in
    let os = c.args.octets.now in
    let n = node_at c.args.table.now c.args.at h c.requires.room c.requires.node in
    let spot = spot_at (spots_in c.args.table.now) c.args.at in
    let is = sym (identifier_is c.args.table.now c.args.at h n) in
    let cut = near_cut spot.plan os (subst (λ (o : ℕ). o < 256) is c.requires.octet) (subst (λ (o : ℕ). begins o os ≡ true) is c.requires.begun) in
    c.cut_part.ensures os ∙ ap (λ (f : Front). part_at spot.side f (pass_at (spots_in c.args.table.now) c.args.at) os c.args.failed.now) (sym cut)

pub series::cut_part-present_node-requires : goal.series::cut_part-present_node-requires
series::cut_part-present_node-requires t c = (omega arith, (c.requires.room, c.requires.node))

pub series::cut_part-returns-then-not-present_node : goal.series::cut_part-returns-then-not-present_node
series::cut_part-returns-then-not-present_node t c = λ os.
    let side = (spot_at (spots_in c.args.table.now) c.args.at).side in
    let pass = pass_at (spots_in c.args.table.now) c.args.at in
    sym (present_there side pass os c.args.failed.now c.in-Some.inside.now c.in-Some.rest.now _ None (ap front_cut c.in-Some.ensures) (no c.present_node.result c.present_node.new.failed _ c.present_node.ensures c.if-not-present_node.true))

pub series::cut_part-returns-else-not-present_node : goal.series::cut_part-returns-else-not-present_node
series::cut_part-returns-else-not-present_node t c = λ os.
    let side = (spot_at (spots_in c.args.table.now) c.args.at).side in
    let pass = pass_at (spots_in c.args.table.now) c.args.at in
    sym (present_there side pass os c.args.failed.now c.in-Some.inside.now c.in-Some.rest.now _ (Some c.present_node.new.failed) (ap front_cut c.in-Some.ensures) (yes c.present_node.result c.present_node.new.failed _ c.present_node.ensures c.if-not-present_node.false))

pub series::cut_part-returns-in-None : goal.series::cut_part-returns-in-None
series::cut_part-returns-in-None t c = λ os.
    let side = (spot_at (spots_in c.args.table.now) c.args.at).side in
    let pass = pass_at (spots_in c.args.table.now) c.args.at in
    sym (not_whole side pass os c.args.failed.now _ (ap front_cut c.in-None.ensures))

pub series::far_part-cut_part-requires : goal.series::far_part-cut_part-requires
series::far_part-cut_part-requires t c = (omega arith, (c.requires, c.index.ensures))

pub series::far_part-seen_part-requires : goal.series::far_part-seen_part-requires
series::far_part-seen_part-requires t c = (omega arith, c.requires)

pub series::far_part-returns-in-Some : goal.series::far_part-returns-in-Some
series::far_part-returns-in-Some t c =
    let side = (spot_at (spots_in c.args.table.now) c.args.at).side in
    let pass = pass_at (spots_in c.args.table.now) c.args.at in
    c.cut_part.ensures c.args.octets.now ∙ ap (λ (f : Front). part_at side f pass c.args.octets.now c.args.failed.now) (sym c.in-Some.ensures)

pub series::seen_part-returns-then-not-present : goal.series::seen_part-returns-then-not-present
series::seen_part-returns-then-not-present t c =
    let side = (spot_at (spots_in c.args.table.now) c.args.at).side in
    let pass = pass_at (spots_in c.args.table.now) c.args.at in
    sym (present_there side pass c.args.octets.now c.args.failed.now c.in-Here.inside.now c.in-Here.rest.now _ None c.in-Here.ensures (no c.present.result c.present.new.failed _ c.present.ensures c.if-not-present.true))

pub series::seen_part-returns-else-not-present : goal.series::seen_part-returns-else-not-present
series::seen_part-returns-else-not-present t c =
    let side = (spot_at (spots_in c.args.table.now) c.args.at).side in
    let pass = pass_at (spots_in c.args.table.now) c.args.at in
    sym (present_there side pass c.args.octets.now c.args.failed.now c.in-Here.inside.now c.in-Here.rest.now _ (Some c.present.new.failed) c.in-Here.ensures (yes c.present.result c.present.new.failed _ c.present.ensures c.if-not-present.false))

pub series::seen_part-returns-then-not-absent : goal.series::seen_part-returns-then-not-absent
series::seen_part-returns-then-not-absent t c =
    let side = (spot_at (spots_in c.args.table.now) c.args.at).side in
    let pass = pass_at (spots_in c.args.table.now) c.args.at in
    sym (absent_there side pass c.args.octets.now c.args.failed.now _ None c.in-Elsewhere.ensures (no c.absent.result c.absent.new.failed _ c.absent.ensures c.if-not-absent.true))

pub series::seen_part-returns-else-not-absent : goal.series::seen_part-returns-else-not-absent
series::seen_part-returns-else-not-absent t c =
    let side = (spot_at (spots_in c.args.table.now) c.args.at).side in
    let pass = pass_at (spots_in c.args.table.now) c.args.at in
    sym (absent_there side pass c.args.octets.now c.args.failed.now _ (Some c.absent.new.failed) c.in-Elsewhere.ensures (yes c.absent.result c.absent.new.failed _ c.absent.ensures c.if-not-absent.false))

pub series::seen_part-returns-in-Broken : goal.series::seen_part-returns-in-Broken
series::seen_part-returns-in-Broken t c =
    let side = (spot_at (spots_in c.args.table.now) c.args.at).side in
    let pass = pass_at (spots_in c.args.table.now) c.args.at in
    sym (not_whole side pass c.args.octets.now c.args.failed.now _ c.in-Broken.ensures)

pub series::present-present_node-requires : goal.series::present-present_node-requires
series::present-present_node-requires t c = (omega arith, (c.requires, c.index.ensures))

pub series::present_node-within_node-requires : goal.series::present_node-within_node-requires
series::present_node-within_node-requires t c = (omega arith, (c.requires.room, c.requires.node))

pub series::present_node-returns-then-is_plain : goal.series::present_node-returns-then-is_plain
series::present_node-returns-then-is_plain t c =
    let n = node_at c.args.table.now c.args.at c.args.node.now c.requires.room c.requires.node in
    let plain = plain_at c.args.table.now c.args.at c.args.node.now n c.args.inside.now c.args.failed.now (c.is_plain.ensures c.if-is_plain.true) in
    let side = (spot_at (spots_in c.args.table.now) c.args.at).side in
    let pass = pass_at (spots_in c.args.table.now) c.args.at in
    sent side pass c.args.inside.now c.args.failed.now c.args.failed.now plain.0 ∙ plain.1

pub series::present_node-returns-then-check : goal.series::present_node-returns-then-check
series::present_node-returns-then-check t c =
    let side = (spot_at (spots_in c.args.table.now) c.args.at).side in
    let pass = pass_at (spots_in c.args.table.now) c.args.at in
    subst (λ (r : Option Slots). Answers c.within_node.result c.within_node.new.failed r) (sym (sent side pass c.args.inside.now c.args.failed.now c.check.new.failed (yes c.check.result c.check.new.failed _ c.check.ensures c.if-check.true))) c.within_node.ensures

pub series::present_node-returns-else-check : goal.series::present_node-returns-else-check
series::present_node-returns-else-check t c =
    let w = no c.check.result c.check.new.failed _ c.check.ensures c.if-check.false in
    let side = (spot_at (spots_in c.args.table.now) c.args.at).side in
    let pass = pass_at (spots_in c.args.table.now) c.args.at in
    rw c.if-check.false (refused side pass c.args.inside.now c.args.failed.now w)

-- ---- CHOICE

pub choices::choice-overflow_add-k-end : goal.choices::choice-overflow_add-k-end
choices::choice-overflow_add-k-end t c =
    let n = node_at c.args.table.now c.args.at c.index-node.result.now c.requires.room c.index-node.ensures in
    omega (arith, n.node.before, c.ranges.at.fits)

pub choices::choice-loop-k-init : goal.choices::choice-loop-k-init
choices::choice-loop-k-init t c =
    let h = c.index-node.result.now in
    let n = node_at c.args.table.now c.args.at h c.requires.room c.index-node.ensures in
    choice_judged c.args.table.now c.args.at h n (kind_of_choice c.args.table.now c.args.at h c.requires.kind c.requires.room c.index-node.ensures) c.args.octets.now c.args.failed.now

pub choices::choice-front_at-requires : goal.choices::choice-front_at-requires
choices::choice-front_at-requires t c =
    let n = node_at c.args.table.now c.args.at c.index-node.result.now c.requires.room c.index-node.ensures in
    omega (arith, n.node.before, c.loop-k-test.true, c.requires.room)

pub choices::choice-chosen-requires : goal.choices::choice-chosen-requires
choices::choice-chosen-requires t c =
    let n = node_at c.args.table.now c.args.at c.index-node.result.now c.requires.room c.index-node.ensures in
    (omega (arith, n.node.before, c.loop-k-test.true), omega (arith, n.node.before, c.loop-k-test.true, c.requires.room))

pub choices::choice-returns-in-Here : goal.choices::choice-returns-in-Here
choices::choice-returns-in-Here t c =
    let h = c.index-node.result.now in
    let n = node_at c.args.table.now c.args.at h c.requires.room c.index-node.ensures in
    let side = (spot_at (spots_in c.args.table.now) c.loop-k.k).side in
    let pass = pass_at (spots_in c.args.table.now) c.loop-k.k in
    let step = choice_step c.args.table.now c.loop-k.k (h.first + h.count) c.args.octets.now c.loop-k.failed c.loop-k-test.true (omega (arith, n.node.before, c.requires.room)) in
    subst (λ (r : Option Slots). Answers c.chosen.result c.chosen.new.failed r) (sym (chosen_here side pass c.in-Here.inside.now c.in-Here.rest.now _ c.loop-k.failed _ c.in-Here.ensures) ∙ sym step ∙ c.loop-k.invariant) c.chosen.ensures

pub choices::choice-returns-in-Broken : goal.choices::choice-returns-in-Broken
choices::choice-returns-in-Broken t c =
    let h = c.index-node.result.now in
    let n = node_at c.args.table.now c.args.at h c.requires.room c.index-node.ensures in
    let side = (spot_at (spots_in c.args.table.now) c.loop-k.k).side in
    let pass = pass_at (spots_in c.args.table.now) c.loop-k.k in
    let step = choice_step c.args.table.now c.loop-k.k (h.first + h.count) c.args.octets.now c.loop-k.failed c.loop-k-test.true (omega (arith, n.node.before, c.requires.room)) in
    sym c.loop-k.invariant ∙ step ∙ chosen_broken side pass _ c.loop-k.failed _ c.in-Broken.ensures

pub choices::choice-loop-k-preserved : goal.choices::choice-loop-k-preserved
choices::choice-loop-k-preserved t c =
    let h = c.index-node.result.now in
    let n = node_at c.args.table.now c.args.at h c.requires.room c.index-node.ensures in
    let side = (spot_at (spots_in c.args.table.now) c.loop-k.k).side in
    let pass = pass_at (spots_in c.args.table.now) c.loop-k.k in
    let step = choice_step c.args.table.now c.loop-k.k (h.first + h.count) c.args.octets.now c.loop-k.failed c.loop-k-test.true (omega (arith, n.node.before, c.requires.room)) in
    rw add-one (sym (step ∙ chosen_later side pass _ c.loop-k.failed _ c.in-Elsewhere.ensures) ∙ c.loop-k.invariant)

pub choices::choice-returns : goal.choices::choice-returns
choices::choice-returns t c =
    let h = c.index-node.result.now in
    sym c.loop-k.invariant ∙ choice_end c.args.table.now c.loop-k.k (h.first + h.count) c.args.octets.now c.loop-k.failed (omega (arith, c.loop-k-test.false))

pub choices::chosen-returns-then-not-is_empty : goal.choices::chosen-returns-then-not-is_empty
choices::chosen-returns-then-not-is_empty t c =
    let side = (spot_at (spots_in c.args.table.now) c.args.at).side in
    let pass = pass_at (spots_in c.args.table.now) c.args.at in
    chosen_more side pass c.args.inside.now c.args.rest.now c.args.failed.now None (sym c.is_empty.ensures ∙ c.if-not-is_empty.true)

pub choices::chosen-returns-then-is_plain : goal.choices::chosen-returns-then-is_plain
choices::chosen-returns-then-is_plain t c =
    let h = c.index.result.now in
    let n = node_at c.args.table.now c.args.at h c.requires c.index.ensures in
    let small = c.is_plain.ensures c.if-is_plain.true in
    let side = (spot_at (spots_in c.args.table.now) c.args.at).side in
    let pass = pass_at (spots_in c.args.table.now) c.args.at in
    chosen_alone side pass c.args.inside.now c.args.rest.now c.args.failed.now None (sym c.is_empty.ensures ∙ c.if-not-is_empty.false)
    ∙ ap (pass c.args.inside.now) (plain_present c.args.table.now c.args.at h n c.args.inside.now c.args.failed.now small)
    ∙ (plain_at c.args.table.now c.args.at h n c.args.inside.now c.args.failed.now small).1

pub choices::chosen-returns : goal.choices::chosen-returns
choices::chosen-returns t c =
    let side = (spot_at (spots_in c.args.table.now) c.args.at).side in
    let pass = pass_at (spots_in c.args.table.now) c.args.at in
    subst (λ (r : Option Slots). Answers c.within_tag.result c.within_tag.new.failed r)
    (ap (pass c.args.inside.now) c.choose.ensures ∙ sym (chosen_alone side pass c.args.inside.now c.args.rest.now c.args.failed.now None (sym c.is_empty.ensures ∙ c.if-not-is_empty.false))) c.within_tag.ensures

-- ---- SET

pub sets::set-series-requires : goal.sets::set-series-requires
sets::set-series-requires t c =
    let n = node_at c.args.table.now c.args.at c.index-node.result.now c.requires.room c.index-node.ensures in
    (omega (arith, n.node.before), omega (arith, n.node.before, c.requires.room))

pub sets::set-returns-then-node : goal.sets::set-returns-then-node
sets::set-returns-then-node t c =
    let h = c.index-node.result.now in
    let n = node_at c.args.table.now c.args.at h c.requires.room c.index-node.ensures in
    let set = kind_of_set c.args.table.now c.args.at h c.requires.kind c.requires.room c.index-node.ensures in
    subst (λ (r : Option Slots). Answers c.series.result c.series.new.failed r) (set_of_parts c.args.table.now c.args.at h n set c.args.octets.now c.args.failed.now c.if-node.true) c.series.ensures

pub sets::members-loop-rest-init : goal.sets::members-loop-rest-init
sets::members-loop-rest-init t c =
    let h = c.index-node.result.now in
    let n = node_at c.args.table.now c.args.at h c.requires.room c.index-node.ensures in
    let kept : AreRead 0 [] = λ i low. no_bit i in
    ([], kept, set_judged c.args.table.now c.args.at h n (kind_of_set c.args.table.now c.args.at h c.requires.kind c.requires.room c.index-node.ensures) c.args.octets.now c.args.failed.now, omega arith, λ k from to. absurd (omega (arith, from, to)))

pub sets::members-returns-in_default : goal.sets::members-returns-in_default
sets::members-returns-in_default t c =
    let h = c.index-node.result.now in
    let n = node_at c.args.table.now c.args.at h c.requires.room c.index-node.ensures in
    let ps = parts_between (spots_in c.args.table.now) h.first h.count in
    let room : h.first + h.count ≤ vec_len c.args.table.now.hots = omega (arith, n.node.before, c.requires.room) in
    let some = sym c.is_empty.ensures ∙ c.loop-rest-test.true in
    let places = c.loop-rest.invariant.0 in
    sym c.loop-rest.invariant.2 ∙ no_tag ps places c.loop-rest.last c.loop-rest.rest.now c.loop-rest.failed some (sym c.next_tag.ensures ∙ c.in_default.is)

pub sets::members-overflow_add-first : goal.sets::members-overflow_add-first
sets::members-overflow_add-first t c =
    let n = node_at c.args.table.now c.args.at c.index-node.result.now c.requires.room c.index-node.ensures in
    omega (arith, n.node.before, c.in-Some-member.ensures.place, c.ranges.at.fits)

pub sets::members-member-requires : goal.sets::members-member-requires
sets::members-member-requires t c =
    let n = node_at c.args.table.now c.args.at c.index-node.result.now c.requires.room c.index-node.ensures in
    record { room = omega (arith, n.node.before, c.requires.room); few = omega (arith, c.passed-start.ensures.few, c.loop-rest.invariant.3); elsewhere = c.passed-start.ensures.elsewhere }

pub sets::members-passed-start-requires : goal.sets::members-passed-start-requires
sets::members-passed-start-requires t c =
    let n = node_at c.args.table.now c.args.at c.index-node.result.now c.requires.room c.index-node.ensures in
    record { room = omega (arith, n.node.before, c.requires.room, c.loop-rest.invariant.3); passed = c.loop-rest.invariant.4 }

pub sets::members-advance-below-requires : goal.sets::members-advance-below-requires
sets::members-advance-below-requires t c =
    let n = node_at c.args.table.now c.args.at c.index-node.result.now c.requires.room c.index-node.ensures in
    record {
      room = omega (arith, n.node.before, c.requires.room);
      few = omega (arith, c.passed-start.ensures.few, c.loop-rest.invariant.3);
      passed = subst (λ (r : ℕ). AreBelow c.args.table.now c.index-node.result.now.first c.passed-start.result r) (sym c.rank_of-floor.ensures) c.passed-start.ensures.passed;
    }

pub sets::members-returns-in_default-member : goal.sets::members-returns-in_default-member
sets::members-returns-in_default-member t c =
    let h = c.index-node.result.now in
    let n = node_at c.args.table.now c.args.at h c.requires.room c.index-node.ensures in
    let ps = parts_between (spots_in c.args.table.now) h.first h.count in
    let room : h.first + h.count ≤ vec_len c.args.table.now.hots = omega (arith, n.node.before, c.requires.room) in
    let some = sym c.is_empty.ensures ∙ c.loop-rest-test.true in
    let places = c.loop-rest.invariant.0 in
    let tag = sym c.next_tag.ensures ∙ c.in-Some.is in
    sym c.loop-rest.invariant.2
    ∙ no_member ps places c.loop-rest.last c.loop-rest.rest.now c.loop-rest.failed c.in-Some.tag some tag (judged_none c.args.table.now h.first h.count places c.loop-rest.rest.now c.loop-rest.failed room c.in_default-member.ensures.found)

pub sets::members-is_read-requires : goal.sets::members-is_read-requires
sets::members-is_read-requires t c =
    let n = node_at c.args.table.now c.args.at c.index-node.result.now c.requires.room c.index-node.ensures in
    let few : c.index-node.result.now.count ≤ 64 = n.node.few in
    omega (arith, few, c.in-Some-member.ensures.place)

pub sets::members-with_read-read-requires : goal.sets::members-with_read-read-requires
sets::members-with_read-read-requires t c =
    let n = node_at c.args.table.now c.args.at c.index-node.result.now c.requires.room c.index-node.ensures in
    let few : c.index-node.result.now.count ≤ 64 = n.node.few in
    omega (arith, few, c.in-Some-member.ensures.place)

pub sets::members-returns-then-is_read : goal.sets::members-returns-then-is_read
sets::members-returns-then-is_read t c =
    let h = c.index-node.result.now in
    let n = node_at c.args.table.now c.args.at h c.requires.room c.index-node.ensures in
    let ps = parts_between (spots_in c.args.table.now) h.first h.count in
    let room : h.first + h.count ≤ vec_len c.args.table.now.hots = omega (arith, n.node.before, c.requires.room) in
    let some = sym c.is_empty.ensures ∙ c.loop-rest-test.true in
    let places = c.loop-rest.invariant.0 in
    let tag = sym c.next_tag.ensures ∙ c.in-Some.is in
    let few : h.count ≤ 64 = n.node.few in
    let low : c.in-Some-member.place < 64 = omega (arith, few, c.in-Some-member.ensures.place) in
    let again : is_read places c.in-Some-member.place ≡ true = sym (c.is_read.ensures ∙ c.loop-rest.invariant.1 c.in-Some-member.place low) ∙ c.if-is_read.true in
    sym c.loop-rest.invariant.2
    ∙ no_member ps places c.loop-rest.last c.loop-rest.rest.now c.loop-rest.failed c.in-Some.tag some tag
    (judged_again c.args.table.now h.first h.count places c.loop-rest.rest.now c.in-Some-member.inside.now c.in-Some-member.next.now c.loop-rest.failed c.in-Some-member.place room c.in-Some-member.ensures.found again)

pub sets::members-present-requires : goal.sets::members-present-requires
sets::members-present-requires t c =
    let n = node_at c.args.table.now c.args.at c.index-node.result.now c.requires.room c.index-node.ensures in
    (omega (arith, n.node.before, c.in-Some-member.ensures.place), omega (arith, n.node.before, c.in-Some-member.ensures.place, c.requires.room))

pub sets::members-returns-then-not-present : goal.sets::members-returns-then-not-present
sets::members-returns-then-not-present t c =
    let h = c.index-node.result.now in
    let n = node_at c.args.table.now c.args.at h c.requires.room c.index-node.ensures in
    let ps = parts_between (spots_in c.args.table.now) h.first h.count in
    let room : h.first + h.count ≤ vec_len c.args.table.now.hots = omega (arith, n.node.before, c.requires.room) in
    let some = sym c.is_empty.ensures ∙ c.loop-rest-test.true in
    let places = c.loop-rest.invariant.0 in
    let tag = sym c.next_tag.ensures ∙ c.in-Some.is in
    let few : h.count ≤ 64 = n.node.few in
    let low : c.in-Some-member.place < 64 = omega (arith, few, c.in-Some-member.ensures.place) in
    let new : is_read places c.in-Some-member.place ≡ false = sym (c.is_read.ensures ∙ c.loop-rest.invariant.1 c.in-Some-member.place low) ∙ c.if-is_read.false in
    sym c.loop-rest.invariant.2
    ∙ no_member ps places c.loop-rest.last c.loop-rest.rest.now c.loop-rest.failed c.in-Some.tag some tag
    (judged_new c.args.table.now h.first h.count places c.loop-rest.rest.now c.in-Some-member.inside.now c.in-Some-member.next.now c.loop-rest.failed c.in-Some-member.place None room c.in-Some-member.ensures.found new
    (no c.present.result c.present.new.failed _ c.present.ensures c.if-not-present.true))

pub sets::members-loop-rest-preserved : goal.sets::members-loop-rest-preserved
sets::members-loop-rest-preserved t c =
    let h = c.index-node.result.now in
    let n = node_at c.args.table.now c.args.at h c.requires.room c.index-node.ensures in
    let ps = parts_between (spots_in c.args.table.now) h.first h.count in
    let room : h.first + h.count ≤ vec_len c.args.table.now.hots = omega (arith, n.node.before, c.requires.room) in
    let some = sym c.is_empty.ensures ∙ c.loop-rest-test.true in
    let places = c.loop-rest.invariant.0 in
    let tag = sym c.next_tag.ensures ∙ c.in-Some.is in
    let few : h.count ≤ 64 = n.node.few in
    let low : c.in-Some-member.place < 64 = omega (arith, few, c.in-Some-member.ensures.place) in
    let new : is_read places c.in-Some-member.place ≡ false = sym (c.is_read.ensures ∙ c.loop-rest.invariant.1 c.in-Some-member.place low) ∙ c.if-is_read.false in
    let kept : AreRead c.with_read-read.result (c.in-Some-member.place ∷ places) = λ i low.
    c.with_read-read.ensures i low ∙ ap (λ (b : Bool). nat_eq c.in-Some-member.place i || b) (c.loop-rest.invariant.1 i low) in (
      c.in-Some-member.place ∷ places,
      kept,
      sym (one_member ps places c.loop-rest.last c.loop-rest.rest.now c.loop-rest.failed c.present.new.failed c.in-Some.tag c.in-Some-member.place c.in-Some-member.next.now some tag
          (judged_new c.args.table.now h.first h.count places c.loop-rest.rest.now c.in-Some-member.inside.now c.in-Some-member.next.now c.loop-rest.failed c.in-Some-member.place (Some c.present.new.failed) room c.in-Some-member.ensures.found new
          (yes c.present.result c.present.new.failed _ c.present.ensures c.if-not-present.false)))
          ∙ c.loop-rest.invariant.2,
      c.advance-below.ensures.few,
      c.advance-below.ensures.passed,
    )

pub sets::members-absences-requires : goal.sets::members-absences-requires
sets::members-absences-requires t c =
    let n = node_at c.args.table.now c.args.at c.index-node.result.now c.requires.room c.index-node.ensures in
    record { room = omega (arith, n.node.before, c.requires.room); few = n.node.few }

pub sets::members-returns : goal.sets::members-returns
sets::members-returns t c =
    let h = c.index-node.result.now in
    let ps = parts_between (spots_in c.args.table.now) h.first h.count in
    let places = c.loop-rest.invariant.0 in
    let empty = sym c.is_empty.ensures ∙ c.loop-rest-test.false in
    subst (λ (r : Option Slots). Answers c.absences.result c.absences.new.failed r)
    (sym (members_over ps places c.loop-rest.last c.loop-rest.rest.now c.loop-rest.failed empty) ∙ c.loop-rest.invariant.2) (c.absences.ensures places c.loop-rest.invariant.1)
