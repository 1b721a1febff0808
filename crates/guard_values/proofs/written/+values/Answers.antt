use Rattle.std.proofs.Common.{◌≡◌, ℕ, ◌<◌, ◌+◌, ◌-◌, ◌≤◌, ◌++◌, rules, Bool, map, length, List, [], ◌∷◌, Option, Some, Ok, Err, Result, true, false, cond, refl, sym, ap, ◌∙◌, subst, IfOk, arith}
use Rattle.std.specs.Arc.{arc_slice_items}
use Rattle.std.specs.Global.{Global}
use Rattle.std.specs.declared.sync.ArcSlice.{ArcSlice}
use Rattle.std.proofs.lemmas.List.{length-set, map_push}
use Rattle.std.proofs.lemmas.Result.{err_from_is_err_and}
use Rattle.guard_model.specs.Answer.{Gives, Refuses, ◌>>=◌}
use Rattle.guard_model.specs.AbstractType as type
use Rattle.guard_model.specs.AbstractType.{AbstractType}
use Rattle.guard_model.specs.AbstractValue as value
use Rattle.guard_model.specs.AbstractValue.{AbstractValue, Fields}
use Rattle.guard_model.specs.Kinds.{kind_of}
use Rattle.guard_model.specs.TypeView.{type_view, kind_view, component_view, components_of}
use Rattle.guard_model.specs.ValueView.{value_view, fields_view}
use Rattle.guard_model.specs.declared.value.Value.TheVariants as values
use Rattle.guard_model.proofs.Components.{in_view}
use Rattle.guard_model.proofs.TypeViews.{type_view_is, kind_view_sequence, kind_view_set, kind_view_sequence_of, kind_view_set_of}
use Rattle.guard_model.proofs.ValueViews.{value_view_chosen, value_view_fields}
use Rattle.guard_model.specs.Slots.{all_absent}
use Rattle.guard_der.specs.Der.{der, contents_octets}
use Rattle.guard_der.specs.Encoding.{longest_encoding, short_length}
use Rattle.guard_der.specs.Reading.{is_filled}
use Rattle.guard_der.specs.inside.EncodingSteps.{sequence_octets}
use Rattle.guard_der.proofs.Functions.Encoding.{Slot}
use Rattle.guard_syntax.specs.Trees.{entries_of}
use Rattle.guard_syntax.specs.Views as trees
use Rattle.guard_model.specs.declared.ty.Kind.{the_lemmas as type_lemmas}
use Rattle.guard_syntax.specs.declared.tree.EntryTree.{the_lemmas}
use Rattle.guard_values.specs.Arrangement.{AreEncodings, encoded_value}
use Rattle.guard_values.specs.inside.Lengths.{HasContents}
use Rattle.guard_values.specs.inside.Reading.{Read, site_of, kept, read_fields, room_without, room_after, build, build_form, build_entries, build_elements, build_list}
use Rattle.guard_values.specs.Views.{named, encoded_view, located_view, values_of}
use Rattle.guard_values.proofs.SetOf.MadeEncodings.{one_more_encoding}
use Rattle.guard_values.proofs.Braces.CodeFields.{CodeFields}
use Rattle.guard_values.proofs.Braces.ProperComponents.{kind_proper}
use Rattle.guard_values.proofs.Braces.EntriesInTurn.{list_is, alone_element, entry_found, elements_from, with_front, room_left, elements_on, elements_refused, elements_long, elements_done, entries_put, entries_refused, entries_done}
use Rattle.guard_values.proofs.Denoted.ReadIsDenoted.{entry_ok}
use Rattle.guard_values.proofs.Counting.CountedLists.{items_joined, last_counted, room_low, room_told}
use Rattle.guard_values.proofs.Counting.CountedValues.{counted_as, set_as, set_of_as, chosen_contents, listed_counted, arranged_counted, part_put, place_type}
use Rattle.guard_values.proofs.Counting.SentParts.{nothing_counted, completed_sent, has_view}
use Rattle.guard_values.proofs.OneAnswer.EarlyEnds.{form_fits, element_fits, octets_counted}
use Rattle.guard_values.proofs.written.+values.Goals as goal

-- ---- forms

pub form-measured-requires : goal.form-measured-requires
unfolding build
form-measured-requires t c =
    form_fits (values_of c.args.scope) c.requires.fitting c.args.sorted (type_view c.args.ty.now) c.args.site (trees.value_form_view c.args.form.now) c.boolean.result c.requires.proper (search (rules, the_lemmas, type_lemmas))

pub form-measured-requires-in-Null : goal.form-measured-requires-in-Null
unfolding build
form-measured-requires-in-Null t c =
    form_fits (values_of c.args.scope) c.requires.fitting c.args.sorted (type_view c.args.ty.now) c.args.site (trees.value_form_view c.args.form.now) c.null.result c.requires.proper (search (rules, the_lemmas, type_lemmas))

pub form-measured-requires-in-Integer : goal.form-measured-requires-in-Integer
unfolding build
form-measured-requires-in-Integer t c =
    form_fits (values_of c.args.scope) c.requires.fitting c.args.sorted (type_view c.args.ty.now) c.args.site (trees.value_form_view c.args.form.now) c.integer.result c.requires.proper (search (rules, the_lemmas, type_lemmas))

pub form-measured-requires-in-Text : goal.form-measured-requires-in-Text
unfolding build
form-measured-requires-in-Text t c =
    form_fits (values_of c.args.scope) c.requires.fitting c.args.sorted (type_view c.args.ty.now) c.args.site (trees.value_form_view c.args.form.now) c.text.result c.requires.proper (search (rules, the_lemmas, type_lemmas))

pub form-measured-requires-in-Arcs : goal.form-measured-requires-in-Arcs
unfolding build
form-measured-requires-in-Arcs t c =
    form_fits (values_of c.args.scope) c.requires.fitting c.args.sorted (type_view c.args.ty.now) c.args.site (trees.value_form_view c.args.form.now) c.arcs.result c.requires.proper (search (rules, the_lemmas, type_lemmas))

pub form-chosen-requires : goal.form-chosen-requires
form-chosen-requires t c = (search (rules, the_lemmas), (kind_proper c.args.ty.now c.requires.proper, c.requires.fitting))

pub form-returns-in-Chosen-clause-counted : goal.form-returns-in-Chosen-clause-counted
form-returns-in-Chosen-clause-counted t c = λ so.
    subst (λ k. IfOk c.chosen.result (HasContents k)) (sym (ap kind_of (type_view_is c.args.ty.now))) (c.chosen.ensures.counted so)

pub form-braces-requires : goal.form-braces-requires
form-braces-requires t c = (search (rules, the_lemmas, c.deref-in-List.ensures.value), (kind_proper c.args.ty.now c.requires.proper, c.requires.fitting))

pub form-returns-in-List-clause-given : goal.form-returns-in-List-clause-given
form-returns-in-List-clause-given t c =
    subst (λ r. Gives (λ x. value_view x.value) named c.braces.result r) (sym (list_is (values_of c.args.scope) c.args.sorted c.args.ty.now c.args.site c.args.form.now c.in-List.entries c.in-List.is)) (rw c.deref-in-List.ensures.value at c.braces.ensures.given)

pub form-returns-in-List-clause-counted : goal.form-returns-in-List-clause-counted
form-returns-in-List-clause-counted t c = λ so.
    subst (λ k. IfOk c.braces.result (HasContents k)) (sym (ap kind_of (type_view_is c.args.ty.now))) (c.braces.ensures.counted so)

pub chosen-read-requires : goal.chosen-read-requires
chosen-read-requires t c = (search (rules, the_lemmas), (c.in_ok-place.ensures.proper, c.requires.fitting))

pub chosen-returns-clause-counted : goal.chosen-returns-clause-counted
chosen-returns-clause-counted t c = λ so.
    let kind = kind_view c.args.kind.now in
    let is = value_view_chosen c.in_ok-place.place c.in_ok-value.value ∙ ap (λ (v : AbstractValue). value.chosen c.in_ok-place.place v) (ap value_view c.in_ok-value.ensures.ok) in
    c.in_ok-counted.ensures.counted so
    ∙ ap short_length (sym (chosen_contents c.args.site kind c.args.name.now (located_view (c.in_ok-place.place, c.in_ok-place.ty)) (value_view c.in_ok-counted.counted.value) c.in_ok-place.ensures.given))
    ∙ ap (λ (v : AbstractValue). short_length (contents_octets kind v)) (sym is)

-- ---- braces

pub braces-returns-in-Sequence-clause-given : goal.braces-returns-in-Sequence-clause-given
braces-returns-in-Sequence-clause-given t c =
    subst (λ k. Gives (λ x. value_view x.value) named c.fields.result (build_list (values_of c.args.scope) c.args.sorted c.args.site k (entries_of (map trees.entry_view c.args.entries.now))))
    (sym (ap kind_view c.in-Sequence.is ∙ kind_view_sequence c.in-Sequence.comps)) (rw c.deref.ensures.value at c.fields.ensures.given)

pub braces-returns-in-Sequence-clause-counted : goal.braces-returns-in-Sequence-clause-counted
braces-returns-in-Sequence-clause-counted t c = λ so.
    subst (λ k. IfOk c.fields.result (HasContents k)) (sym (ap kind_view c.in-Sequence.is ∙ kind_view_sequence c.in-Sequence.comps)) (rw c.deref.ensures.value at (c.fields.ensures.counted so))

pub braces-returns-in-Set-clause-given : goal.braces-returns-in-Set-clause-given
braces-returns-in-Set-clause-given t c =
    subst (λ k. Gives (λ x. value_view x.value) named c.fields-in-Set.result (build_list (values_of c.args.scope) c.args.sorted c.args.site k (entries_of (map trees.entry_view c.args.entries.now))))
    (sym (ap kind_view c.in-Set.is ∙ kind_view_set c.in-Set.comps)) (rw c.deref-in-Set.ensures.value at c.fields-in-Set.ensures.given)

pub braces-returns-in-Set-clause-counted : goal.braces-returns-in-Set-clause-counted
braces-returns-in-Set-clause-counted t c = λ so.
    let cs = in_view c.in-Set.comps.items in
    subst (λ k. IfOk c.fields-in-Set.result (HasContents k)) (sym (ap kind_view c.in-Set.is ∙ kind_view_set c.in-Set.comps))
    (counted_as (type.sequence cs) (type.set cs) c.fields-in-Set.result (set_as cs) (rw c.deref-in-Set.ensures.value at (c.fields-in-Set.ensures.counted so)))

pub braces-returns-in-SequenceOf-clause-given : goal.braces-returns-in-SequenceOf-clause-given
braces-returns-in-SequenceOf-clause-given t c =
    subst (λ k. Gives (λ x. value_view x.value) named c.items.result (build_list (values_of c.args.scope) c.args.sorted c.args.site k (entries_of (map trees.entry_view c.args.entries.now))))
    (sym (ap kind_view c.in-SequenceOf.is ∙ kind_view_sequence_of c.in-SequenceOf.ty)) (rw c.deref-in-SequenceOf.ensures at c.items.ensures.given)

pub braces-returns-in-SequenceOf-clause-counted : goal.braces-returns-in-SequenceOf-clause-counted
braces-returns-in-SequenceOf-clause-counted t c = λ so.
    subst (λ k. IfOk c.items.result (HasContents k)) (sym (ap kind_view c.in-SequenceOf.is ∙ kind_view_sequence_of c.in-SequenceOf.ty)) (rw c.deref-in-SequenceOf.ensures at (c.items.ensures.counted so))

pub braces-returns-in-SetOf-clause-given : goal.braces-returns-in-SetOf-clause-given
braces-returns-in-SetOf-clause-given t c =
    subst (λ k. Gives (λ x. value_view x.value) named c.set_items.result (build_list (values_of c.args.scope) c.args.sorted c.args.site k (entries_of (map trees.entry_view c.args.entries.now))))
    (sym (ap kind_view c.in-SetOf.is ∙ kind_view_set_of c.in-SetOf.ty)) (rw c.deref-in-SetOf.ensures at c.set_items.ensures.given)

pub braces-returns-in-SetOf-clause-counted : goal.braces-returns-in-SetOf-clause-counted
braces-returns-in-SetOf-clause-counted t c = λ so.
    subst (λ k. IfOk c.set_items.result (HasContents k)) (sym (ap kind_view c.in-SetOf.is ∙ kind_view_set_of c.in-SetOf.ty)) (rw c.deref-in-SetOf.ensures at (c.set_items.ensures.counted so))

-- ---- components

fields_shared : (fields : CodeFields) (shared : ArcSlice Slot Global) → arc_slice_items shared ≡ fields → value_view (values.Fields shared) ≡ value.fields (fields_view fields)
fields_shared fields shared same = value_view_fields shared ∙ ap (λ (gs : CodeFields). value.fields (fields_view gs)) same

pub fields-returns-clause-given : goal.fields-returns-clause-given
fields-returns-clause-given t c =
    let cs = in_view c.args.comps.now in
    ap (read_fields c.args.site cs) c.in_ok-given.ensures.given ∙ ap (λ (r : Read Fields). r >>= λ fs. Ok (value.fields fs)) c.in_ok-fields.ensures
    ∙ ap (λ (v : AbstractValue). Ok v) (sym (fields_shared c.in_ok-fields.fields.items c.in_ok-shared.shared c.in_ok-shared.ensures))

pub fields-returns-clause-counted : goal.fields-returns-clause-counted
fields-returns-clause-counted t c = λ so.
    let cs = in_view c.args.comps.now in
    let given = c.in_ok-given.given.items in
    let fields = c.in_ok-fields.fields.items in
    let same = completed_sent c.args.site cs (fields_view given) (fields_view fields) (has_view c.args.comps.now given c.in_ok-given.ensures.count) c.in_ok-fields.ensures in
    c.in_ok-given.ensures.counted so ∙ sym (ap (λ ps. short_length (sequence_octets ps)) same)
    ∙ ap (λ (v : AbstractValue). short_length (contents_octets (type.sequence cs) v)) (sym (fields_shared fields c.in_ok-shared.shared c.in_ok-shared.ensures))

pub entry_value-read_entry-requires : goal.entry_value-read_entry-requires
entry_value-read_entry-requires t c = (search (rules, the_lemmas), (c.in_ok-place.ensures.proper, c.requires.fitting))

pub entry_value-returns-clause-given : goal.entry_value-returns-clause-given
entry_value-returns-clause-given t c =
    entry_found (values_of c.args.scope) c.args.sorted c.args.ordered (components_of (map component_view c.args.comps.now)) c.args.next (fields_view c.args.fields.now) (trees.entry_view c.args.entry.now) (located_view (c.in_ok-place.place, c.in_ok-place.ty)) (value_view c.in_ok-counted.counted.value)
    (rw (c.site.ensures, c.name.ensures) at c.in_ok-place.ensures.given) c.in_ok-counted.ensures.given

pub entry_value-returns-clause-counted : goal.entry_value-returns-clause-counted
entry_value-returns-clause-counted t c = λ so.
    let typed = place_type c.args.ordered (components_of (map component_view c.args.comps.now)) c.args.next (fields_view c.args.fields.now) _ _ (located_view (c.in_ok-place.place, c.in_ok-place.ty)) c.in_ok-place.ensures.given in
    (type_view c.in_ok-place.ty.now, typed, c.in_ok-counted.ensures.counted so)

pub entry_fields-loop-entry-init : goal.entry_fields-loop-entry-init
entry_fields-loop-entry-init t c =
    let cs = components_of (map component_view c.args.comps.now) in
    record {
      count = c.in_ok-fields.ensures.count;
      so_far = ap (λ (fs : Fields). build_entries (values_of c.args.scope) c.args.sorted c.args.ordered cs 0 fs (entries_of (map trees.entry_view c.args.entries.now))) c.in_ok-fields.ensures.absent;
      counted = λ so. nothing_counted cs ∙ ap (λ (fs : Fields). short_length (contents_octets (type.sequence cs) (value.fields fs))) (sym c.in_ok-fields.ensures.absent);
    }

pub entry_fields-loop-entry-preserved : goal.entry_fields-loop-entry-preserved
entry_fields-loop-entry-preserved t c =
    let m = values_of c.args.scope in
    let cs = components_of (map component_view c.args.comps.now) in
    let fs = c.loop-entry.fields.items in
    let place = c.in_ok-place.place in
    let v = c.in_ok-place.counted.value in
    let slot = c.in_ok-slot.slot in
    let holds = c.in_ok-slot.ensures.ok in
    let given = rw c.deref.ensures.value at c.in_ok-place.ensures.given in
    let within = subst (λ n. place < n) (sym c.loop-entry.invariant.count) c.in_ok-place.ensures.within in
    record {
      count = ap length c.set_field.ensures ∙ length-set fs place _ ∙ c.loop-entry.invariant.count;
      so_far = entries_put m c.args.sorted c.args.ordered cs c.args.entries.now c.loop-entry.next fs c.set_field.new.fields.items c.loop-entry.entry-index c.entry-item.result place slot v
          (build_entries m c.args.sorted c.args.ordered cs 0 (all_absent cs) (entries_of (map trees.entry_view c.args.entries.now))) c.loop-entry-test.true c.entry-item.is given within holds c.set_field.ensures c.loop-entry.invariant.so_far;
      counted = λ so.
          let entry = trees.entry_view c.entry-item.result in
          let k = entry_ok c.args.ordered cs c.loop-entry.next (fields_view fs) entry.site entry.name (λ u. build m c.args.sorted u entry.value) (place, value_view v) given in
          let free = subst (λ p. is_filled p (fields_view fs) ≡ false) k.6 k.3 in
          let one = c.in_ok-place.ensures.counted so in
          part_put c.args.comps.now fs c.set_field.new.fields.items place c.index-comps-place.result one.0 slot v c.loop-entry.length c.in_ok-place.counted.length c.with_part-length.result c.loop-entry.invariant.count c.in_ok-place.ensures.within c.index-comps-place.is
          free one.1 one.2 holds c.set_field.ensures (c.with_part-length.ensures so) (c.loop-entry.invariant.counted so);
    }

pub entry_fields-returns-in_err-place-clause-given : goal.entry_fields-returns-in_err-place-clause-given
entry_fields-returns-in_err-place-clause-given t c =
    let cs = components_of (map component_view c.args.comps.now) in
    let p = err_from_is_err_and c.from_residual-in_err-place.result c.from_residual-in_err-place.ensures.1 in
    rw (p.1, p.2) (entries_refused (values_of c.args.scope) c.args.sorted c.args.ordered cs c.args.entries.now (named c.in_err-place.field-0.0) c.loop-entry.next (fields_view c.loop-entry.fields.items) c.loop-entry.entry-index c.entry-item.result
    (build_entries (values_of c.args.scope) c.args.sorted c.args.ordered cs 0 (all_absent cs) (entries_of (map trees.entry_view c.args.entries.now))) c.loop-entry-test.true c.entry-item.is (rw c.deref.ensures.value at c.in_err-place.ensures.given) c.loop-entry.invariant.so_far)

pub entry_fields-returns-clause-given : goal.entry_fields-returns-clause-given
entry_fields-returns-clause-given t c =
    let cs = components_of (map component_view c.args.comps.now) in
    entries_done (values_of c.args.scope) c.args.sorted c.args.ordered cs c.args.entries.now c.loop-entry.next (fields_view c.loop-entry.fields.items) c.loop-entry.entry-index
    (build_entries (values_of c.args.scope) c.args.sorted c.args.ordered cs 0 (all_absent cs) (entries_of (map trees.entry_view c.args.entries.now))) c.loop-entry-test.false c.loop-entry.invariant.so_far

-- ---- elements

pub element-returns-in-Alone-clause-given : goal.element-returns-in-Alone-clause-given
element-returns-in-Alone-clause-given t c =
    subst (λ r. Gives (λ x. value_view x.value) named c.read.result r) (sym (alone_element (values_of c.args.scope) c.args.sorted (type_view c.args.ty.now) c.args.entry.now c.in-Alone.value c.in-Alone.is)) c.read.ensures.given

pub items-returns-clause-counted : goal.items-returns-clause-counted
items-returns-clause-counted t c = λ so.
    listed_counted (type_view c.args.ty.now) c.args.site (map value_view c.in_ok-elements.elements.items) (value_view c.in_ok-value.value) (Some c.in_ok-elements.octets) c.in_ok-value.ensures (c.in_ok-elements.ensures.counted so)

pub elements-loop-entry-preserved : goal.elements-loop-entry-preserved
elements-loop-entry-preserved t c =
    let m = values_of c.args.scope in
    let u = type_view c.args.ty.now in
    let entry = trees.entry_view c.entry-item.result in
    let v = value_view c.in_ok-counted.counted.value in
    let site = site_of entry.value in
    let before = map value_view c.loop-entry.elements.items in
    let total = build_elements m c.args.sorted false u longest_encoding (entries_of (map trees.entry_view c.args.entries.now)) in
    let told = room_told c.args.sorted site u v c.loop-entry.room c.in_ok-counted.counted.length c.in_ok-counted.ensures.counted in
    let more = elements_on m c.args.sorted false u c.args.entries.now c.loop-entry.room c.loop-entry.entry-index c.entry-item.result before v c.in_ok-room.room total c.loop-entry-test.true c.entry-item.is
    c.in_ok-counted.ensures.given (sym told ∙ c.in_ok-room.ensures) c.loop-entry.invariant.so_far in
    let P : List AbstractValue → Type 0 = (λ f. with_front f (elements_from m c.args.sorted false u c.args.entries.now c.in_ok-room.room (c.loop-entry.entry-index + 1)) ≡ total) in
    let pushed = ap (map value_view) c.in_ok-push.ensures.items ∙ map_push value_view c.loop-entry.elements.items c.kept.result ∙ ap (λ (w : AbstractValue). before ++ w ∷ []) c.kept.ensures in
    record {
      so_far = subst P (sym pushed) more;
      low = room_low c.args.sorted site c.loop-entry.room c.in_ok-room.room c.in_ok-counted.counted.length c.loop-entry.invariant.low c.in_ok-room.ensures;
      counted = λ so.
          let took = subst (λ b. room_after b site u v c.loop-entry.room ≡ Ok c.in_ok-room.room) so (sym told ∙ c.in_ok-room.ensures) in
          ap (λ (vs : List AbstractValue). short_length (items_joined u vs)) (pushed ∙ ap (λ (b : Bool). before ++ kept b v ∷ []) so)
          ∙ (last_counted u before v site c.loop-entry.room c.in_ok-room.room (c.loop-entry.invariant.counted so) c.loop-entry.invariant.low took).0;
    }

pub elements-returns-in_err-counted-clause-given : goal.elements-returns-in_err-counted-clause-given
elements-returns-in_err-counted-clause-given t c =
    let m = values_of c.args.scope in
    let p = err_from_is_err_and c.from_residual-in_err-counted.result c.from_residual-in_err-counted.ensures.1 in
    rw (p.1, p.2) (elements_refused m c.args.sorted false (type_view c.args.ty.now) c.args.entries.now (named c.in_err-counted.field-0.0) c.loop-entry.room c.loop-entry.entry-index c.entry-item.result (map value_view c.loop-entry.elements.items)
    (build_elements m c.args.sorted false (type_view c.args.ty.now) longest_encoding (entries_of (map trees.entry_view c.args.entries.now))) c.loop-entry-test.true c.entry-item.is c.in_err-counted.ensures.given c.loop-entry.invariant.so_far)

pub elements-returns-in_err-room-clause-given : goal.elements-returns-in_err-room-clause-given
elements-returns-in_err-room-clause-given t c =
    let m = values_of c.args.scope in
    let u = type_view c.args.ty.now in
    let v = value_view c.in_ok-counted.counted.value in
    let p = err_from_is_err_and c.from_residual-in_err-room.result c.from_residual-in_err-room.ensures.1 in
    let told = room_told c.args.sorted (site_of (trees.entry_view c.entry-item.result).value) u v c.loop-entry.room c.in_ok-counted.counted.length c.in_ok-counted.ensures.counted in
    rw (p.1, p.2) (elements_long m c.args.sorted false u c.args.entries.now (named c.in_err-room.field-0.0) c.loop-entry.room c.loop-entry.entry-index c.entry-item.result (map value_view c.loop-entry.elements.items)
    v (build_elements m c.args.sorted false u longest_encoding (entries_of (map trees.entry_view c.args.entries.now))) c.loop-entry-test.true c.entry-item.is c.in_ok-counted.ensures.given (subst (Refuses (named c.in_err-room.field-0.0)) told c.in_err-room.ensures)
    c.loop-entry.invariant.so_far)

pub elements-returns-clause-given : goal.elements-returns-clause-given
elements-returns-clause-given t c =
    let m = values_of c.args.scope in
    elements_done m c.args.sorted false (type_view c.args.ty.now) c.args.entries.now c.loop-entry.room c.loop-entry.entry-index (map value_view c.loop-entry.elements.items)
    (build_elements m c.args.sorted false (type_view c.args.ty.now) longest_encoding (entries_of (map trees.entry_view c.args.entries.now))) c.loop-entry-test.false c.loop-entry.invariant.so_far

-- ---- elements of a SET OF

pub set_items-returns-clause-counted : goal.set_items-returns-clause-counted
set_items-returns-clause-counted t c = λ so.
    arranged_counted (type_view c.args.ty.now) c.args.site (map encoded_value (map encoded_view c.in_ok-elements.elements.items)) (value_view c.in_ok-value.value) (Some c.in_ok-elements.octets) c.in_ok-value.ensures c.in_ok-elements.ensures.counted

pub encoded_element-encoded-requires : goal.encoded_element-encoded-requires
encoded_element-encoded-requires t c =
    element_fits (values_of c.args.scope) (type_view c.args.ty.now) (trees.entry_view c.args.entry.now) c.requires.fitting true (value_view c.in_ok-counted.counted.value) c.requires.proper c.in_ok-counted.ensures.given refl

pub encoded_elements-loop-entry-preserved : goal.encoded_elements-loop-entry-preserved
encoded_elements-loop-entry-preserved t c =
    let m = values_of c.args.scope in
    let u = type_view c.args.ty.now in
    let v = value_view c.in_ok-element.element.value in
    let site = site_of (trees.entry_view c.entry-item.result).value in
    let total = build_elements m true true u longest_encoding (entries_of (map trees.entry_view c.args.entries.now)) in
    let before = map encoded_view c.loop-entry.elements.items in
    let pushed : map encoded_view c.push.new.self.items ≡ before ++ encoded_view c.in_ok-element.element ∷ [] = ap (map encoded_view) c.in_ok-push.ensures.items ∙ map_push encoded_view c.loop-entry.elements.items c.in_ok-element.element in
    let values = ap (map encoded_value) pushed ∙ map_push encoded_value before (encoded_view c.in_ok-element.element) in
    let size : c.len.result ≡ length c.in_ok-element.element.octets.items = omega (arith, c.len.ensures, c.in_ok-element.element.octets.ok.0) in
    let counted = ap (λ (n : ℕ). Some n) size ∙ octets_counted m u (trees.entry_view c.entry-item.result) v c.in_ok-element.element.octets.items c.in_ok-element.ensures.given c.in_ok-element.ensures.encoding in
    let left : room_left m true true u c.args.entries.now c.loop-entry.room c.entry-item.result v ≡ Ok c.in_ok-room.room = ap (room_without site c.loop-entry.room) (sym counted) ∙ c.in_ok-room.ensures in
    let more = elements_on m true true u c.args.entries.now c.loop-entry.room c.loop-entry.entry-index c.entry-item.result (map encoded_value before) v c.in_ok-room.room total c.loop-entry-test.true c.entry-item.is
    c.in_ok-element.ensures.given left c.loop-entry.invariant.so_far in
    let P : List AbstractValue → Type 0 = (λ f. with_front f (elements_from m true true u c.args.entries.now c.in_ok-room.room (c.loop-entry.entry-index + 1)) ≡ total) in
    let last = last_counted u (map encoded_value before) v site c.loop-entry.room c.in_ok-room.room c.loop-entry.invariant.counted c.loop-entry.invariant.low left in
    record {
      encodings = subst (AreEncodings u) (sym pushed) (one_more_encoding u before (encoded_view c.in_ok-element.element) c.loop-entry.invariant.encodings c.in_ok-element.ensures.encoding);
      so_far = subst P (sym values) more;
      low = last.1;
      counted = ap (λ (vs : List AbstractValue). short_length (items_joined u vs)) values ∙ last.0;
    }

pub encoded_elements-returns-in_err-element-clause-given : goal.encoded_elements-returns-in_err-element-clause-given
encoded_elements-returns-in_err-element-clause-given t c =
    let m = values_of c.args.scope in
    let p = err_from_is_err_and c.from_residual-in_err-element.result c.from_residual-in_err-element.ensures.1 in
    rw (p.1, p.2) (elements_refused m true true (type_view c.args.ty.now) c.args.entries.now (named c.in_err-element.field-0.0) c.loop-entry.room c.loop-entry.entry-index c.entry-item.result (map encoded_value (map encoded_view c.loop-entry.elements.items))
    (build_elements m true true (type_view c.args.ty.now) longest_encoding (entries_of (map trees.entry_view c.args.entries.now))) c.loop-entry-test.true c.entry-item.is c.in_err-element.ensures.given c.loop-entry.invariant.so_far)

pub encoded_elements-returns-in_err-room-clause-given : goal.encoded_elements-returns-in_err-room-clause-given
encoded_elements-returns-in_err-room-clause-given t c =
    let m = values_of c.args.scope in
    let u = type_view c.args.ty.now in
    let p = err_from_is_err_and c.from_residual-in_err-room.result c.from_residual-in_err-room.ensures.1 in
    let size : c.len.result ≡ length c.in_ok-element.element.octets.items = omega (arith, c.len.ensures, c.in_ok-element.element.octets.ok.0) in
    let counted = ap (λ (n : ℕ). Some n) size ∙ octets_counted m u (trees.entry_view c.entry-item.result) (value_view c.in_ok-element.element.value) c.in_ok-element.element.octets.items c.in_ok-element.ensures.given c.in_ok-element.ensures.encoding in
    let refused : Refuses (named c.in_err-room.field-0.0) (room_left m true true u c.args.entries.now c.loop-entry.room c.entry-item.result (value_view c.in_ok-element.element.value)) =
    subst (λ (n : Option ℕ). Refuses (named c.in_err-room.field-0.0) (room_without (site_of (trees.entry_view c.entry-item.result).value) c.loop-entry.room n)) counted c.in_err-room.ensures in
    rw (p.1, p.2) (elements_long m true true u c.args.entries.now (named c.in_err-room.field-0.0) c.loop-entry.room c.loop-entry.entry-index c.entry-item.result (map encoded_value (map encoded_view c.loop-entry.elements.items))
    (value_view c.in_ok-element.element.value) (build_elements m true true u longest_encoding (entries_of (map trees.entry_view c.args.entries.now))) c.loop-entry-test.true c.entry-item.is c.in_ok-element.ensures.given refused c.loop-entry.invariant.so_far)

pub encoded_elements-returns-clause-given : goal.encoded_elements-returns-clause-given
encoded_elements-returns-clause-given t c =
    let m = values_of c.args.scope in
    elements_done m true true (type_view c.args.ty.now) c.args.entries.now c.loop-entry.room c.loop-entry.entry-index (map encoded_value (map encoded_view c.loop-entry.elements.items))
    (build_elements m true true (type_view c.args.ty.now) longest_encoding (entries_of (map trees.entry_view c.args.entries.now))) c.loop-entry-test.false c.loop-entry.invariant.so_far
