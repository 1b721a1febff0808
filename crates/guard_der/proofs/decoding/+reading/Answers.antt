use Rattle.std.proofs.Common.{◌≡◌, ◌+◌, ◌-◌, ◌++◌, ◌∷◌, [], ◌∙◌, sym, ap, length, map, get_or, subst, arith, ◌<◌}
use Rattle.std.specs.Arc.{arc_slice_items}
use Rattle.std.specs.Prelude.{option_map}
use Rattle.std.proofs.lemmas.Result.{err_from_is_err_and}
use Rattle.std.proofs.lemmas.List.{map_push, length-append, length-drop, length-set}
use Rattle.guard_model.specs.Answer.{Gives}
use Rattle.guard_model.specs.TypeView.{type_view, kind_view, presence_view}
use Rattle.guard_model.specs.ValueView.{value_view, field_view, slot_view, fields_view}
use Rattle.guard_model.specs.declared.site.Step.TheVariants.{Component}
use Rattle.guard_model.specs.declared.ty.Kind.TheViews.{out-Ty, out-Comp}
use Rattle.guard_tagcheck.specs.FirstTags.{begins_with}
use Rattle.guard_tagcheck.specs.Limits.{deepest}
use Rattle.guard_der.specs.declared.breach.Code.TheVariants as code
use Rattle.guard_der.specs.Head.{head_of}
use Rattle.guard_der.specs.Breach.{below}
use Rattle.guard_der.specs.Reading.{element_at, part_at, fields_at, contents_at, missing_at, fault, same_form}
use Rattle.guard_der.specs.Views.{head_view}
use Rattle.guard_der.specs.inside.Faults.{fault_of}
use Rattle.guard_der.proofs.Numbers.Digits.{are_digits}
use Rattle.guard_der.proofs.Headers.Offsets.{head_room, head_small}
use Rattle.guard_der.proofs.Elements.Steps.{due_ok}
use Rattle.guard_der.proofs.Components.OneComponent.{located_is, sent_again, sent_default}
use Rattle.guard_der.proofs.Functions.ComponentLoop.{left_proper, goes_on, refused, end_refused, is_done}
use Rattle.guard_der.proofs.Types.Paths.{room_below, room_below_item}
use Rattle.guard_der.proofs.Lists.Elements.{item_reads}
use Rattle.guard_der.proofs.Functions.ElementLoop.{due_some, item_tags, item_not_due, item_not_read, item_descends, item_is_read, item_refused, items_go_on, items_refused, items_done, sequence_of_contents, set_of_contents, contents_refused, contents_read}
use Rattle.guard_der.proofs.Functions.Decoding as decodings
use Rattle.guard_der.proofs.Functions.Decoding.{several, whole, due_room, inner_proper, proper_inside, element_none, element_one, element_one_wrong, element_more, element_more_wrong, part_is, chosen_none, chosen_some, chosen_refused, end_ok, no_header, stray_ok, stray_refused, component_ok, component_refused, sent_refused, sequence_parts, sequence_given, choice_parts, choice_proper, choice_contents, choice_element, tags_element, tags_proper, tags_nesting, refuses_as, inside_room}
use Rattle.guard_der.proofs.Functions.SetFields.{field_filled}
use Rattle.guard_der.proofs.Functions.SetLoop as set_components
use Rattle.guard_der.proofs.Functions.SetLoop.{set_parts, set_read, set_given, set_refused, sent_part, element_is_read, element_refused, head_size}
use Rattle.guard_der.proofs.decoding.+reading.Goals as goal
use Rattle.std.proofs.lemmas.Bool.{not-true, not-false}
use Rattle.guard_model.proofs.ValueViews.{value_view_chosen}
use Rattle.guard_model.proofs.Components.{in_view}

-- ---- one element alone

pub alone-element-requires : goal.alone-element-requires
alone-element-requires t c =
    let h = due_ok (begins_with (whole c.args.tags.now (kind_view c.args.kind.now))) c.args.at c.args.octets.now (head_view c.in_ok-head.head) c.in_ok-head.ensures in
    (omega arith, (c.requires.proper, (c.requires.depth, (h.0, c.requires.room))))

pub alone-overflow_add-size : goal.alone-overflow_add-size
alone-overflow_add-size t c = omega (arith, c.requires.room, due_room (begins_with (whole c.args.tags.now (kind_view c.args.kind.now))) c.args.at c.args.octets.now (head_view c.in_ok-head.head) (are_digits 256 c.args.octets.now (λ i _. omega (arith, c.type_inv.octets i))) c.in_ok-head.ensures)

-- ---- element

pub element-split_at-requires : goal.element-split_at-requires
element-split_at-requires t c = omega (arith, head_room c.args.octets.now (head_view c.args.head) (are_digits 256 c.args.octets.now (λ i _. omega (arith, c.type_inv.octets i))) c.requires.header)

pub element-split_at-requires-2 : goal.element-split_at-requires-2
element-split_at-requires-2 t c = rw c.split_at.ensures.back (omega (arith, length-drop c.args.head.size c.args.octets.now, head_room c.args.octets.now (head_view c.args.head) (are_digits 256 c.args.octets.now (λ i _. omega (arith, c.type_inv.octets i))) c.requires.header))

pub element-contents-requires : goal.element-contents-requires
element-contents-requires t c = (
  omega (arith, c.if-tags-eq1.true),
  (
    proper_inside c.args.tags.now (kind_view c.args.kind.now) c.requires.proper,
    (
      omega (arith, c.requires.depth, c.if-tags-eq1.true),
      (
        rw (c.split_at-2.ensures.front, c.split_at.ensures.back) (inside_room c.args.octets.now (head_view c.args.head) c.args.at 18446744073709551616 (head_room c.args.octets.now (head_view c.args.head) (are_digits 256 c.args.octets.now (λ i _. omega (arith, c.type_inv.octets i))) c.requires.header) c.requires.room),
        rw (c.split_at-2.ensures.front, c.split_at.ensures.back) (head_small c.args.octets.now (head_view c.args.head) (are_digits 256 c.args.octets.now (λ i _. omega (arith, c.type_inv.octets i))) c.requires.header),
      ),
    ),
  ),
)

pub element-alone-requires : goal.element-alone-requires
element-alone-requires t c =
    let p = inner_proper c.args.tags.now (kind_view c.args.kind.now) (several c.args.tags.now (sym c.is_empty.ensures ∙ c.if-is_empty.false) c.if-tags-eq1.false) c.requires.proper in (
      omega (arith, p.1),
      (
        p.0,
        (
          omega (arith, c.requires.depth, p.1),
          rw (c.split_at-2.ensures.front, c.split_at.ensures.back) (inside_room c.args.octets.now (head_view c.args.head) c.args.at 18446744073709551616 (head_room c.args.octets.now (head_view c.args.head) (are_digits 256 c.args.octets.now (λ i _. omega (arith, c.type_inv.octets i))) c.requires.header) c.requires.room),
        ),
      ),
    )

pub element-returns-then-is_empty : goal.element-returns-then-is_empty
element-returns-then-is_empty t c =
    subst (λ r. Gives value_view (fault_of c.untagged.new.path.items) c.untagged.result r) (sym (element_none c.args.tags.now (kind_view c.args.kind.now) c.args.at (head_view c.args.head) c.args.octets.now (sym c.is_empty.ensures ∙ c.if-is_empty.true))) c.untagged.ensures

pub element-returns-then-not-is_form : goal.element-returns-then-not-is_form
element-returns-then-not-is_form t c =
    rw c.wrong_form.ensures (element_one_wrong c.args.tags.now (kind_view c.args.kind.now) c.args.at (head_view c.args.head) c.args.octets.now c.if-tags-eq1.true
    (ap (same_form c.args.head.constructed) (sym c.is_constructed.ensures) ∙ sym c.is_form.ensures ∙ c.if-not-is_form.true))

pub element-returns-then-tags-eq1 : goal.element-returns-then-tags-eq1
element-returns-then-tags-eq1 t c =
    subst (λ r. Gives value_view (fault_of c.contents.new.path.items) c.contents.result r) (sym (element_one c.args.tags.now (kind_view c.args.kind.now) c.args.at (head_view c.args.head) c.args.octets.now c.if-tags-eq1.true
    (ap (same_form c.args.head.constructed) (sym c.is_constructed.ensures) ∙ sym c.is_form.ensures ∙ c.if-not-is_form.false)))
    (rw (c.split_at-2.ensures.front, c.split_at.ensures.back) at c.contents.ensures)

pub element-returns-then-not-head : goal.element-returns-then-not-head
element-returns-then-not-head t c =
    rw c.fault_at.ensures (element_more_wrong c.args.tags.now (kind_view c.args.kind.now) c.args.at (head_view c.args.head) c.args.octets.now
    (several c.args.tags.now (sym c.is_empty.ensures ∙ c.if-is_empty.false) c.if-tags-eq1.false) (not-true c.args.head.constructed c.if-not-head.true))

pub element-returns : goal.element-returns
element-returns t c =
    subst (λ r. Gives value_view (fault_of c.alone.new.path.items) c.alone.result r) (sym (element_more c.args.tags.now (kind_view c.args.kind.now) c.args.at (head_view c.args.head) c.args.octets.now
    (several c.args.tags.now (sym c.is_empty.ensures ∙ c.if-is_empty.false) c.if-tags-eq1.false) (not-false c.args.head.constructed c.if-not-head.false)))
    (rw (c.split_at-2.ensures.front, c.split_at.ensures.back) at c.alone.ensures)

-- ---- CHOICE

pub untagged-chosen-requires : goal.untagged-chosen-requires
untagged-chosen-requires t c =
    let p = choice_parts c.args.kind.now c.in-Choice.alternatives c.in-Choice.is c.requires.proper in
    let d = ap (λ x. deepest (in_view x)) c.deref.ensures.value in
    (omega (arith, p.2, d), (rw c.deref.ensures.value p.0, (rw c.deref.ensures.value p.1, (omega (arith, p.2, d, c.requires.depth), (c.requires.header, c.requires.room)))))

pub untagged-returns-in-Choice : goal.untagged-returns-in-Choice
untagged-returns-in-Choice t c =
    subst (λ r. Gives value_view (fault_of c.chosen.new.path.items) c.chosen.result r) (choice_element c.args.kind.now c.in-Choice.alternatives c.args.at (head_view c.args.head) c.args.octets.now c.in-Choice.is) (rw c.deref.ensures.value at c.chosen.ensures)

pub contents-alone-requires : goal.contents-alone-requires
contents-alone-requires t c = (omega arith, (choice_proper c.args.kind.now c.in-Choice.field-0 c.in-Choice.is c.requires.proper, (omega (arith, c.requires.depth), c.requires.room)))

pub contents-returns-in-Choice : goal.contents-returns-in-Choice
contents-returns-in-Choice t c =
    subst (λ r. Gives value_view (fault_of c.alone.new.path.items) c.alone.result r) (choice_contents c.args.kind.now c.in-Choice.field-0 c.args.at c.args.start c.args.octets.now c.in-Choice.is) c.alone.ensures

pub chosen-returns-in_default : goal.chosen-returns-in_default
chosen-returns-in_default t c = rw c.fault_at.ensures (chosen_none (in_view c.args.alternatives.now) c.args.at (head_view c.args.head) c.args.octets.now (sym c.in_default.ensures.place))

pub chosen-element-requires : goal.chosen-element-requires
chosen-element-requires t c =
    let ty = (out-Comp (get_or c.args.alternatives.now c.in-Some.place c.index-alternatives-place.result)).ty in
    let p = part_is c.args.alternatives.now c.in-Some.place (get_or c.args.alternatives.now c.in-Some.place c.index-alternatives-place.result) c.in-Some.ensures.within (ap (λ x. get_or c.args.alternatives.now c.in-Some.place x) c.index-alternatives-place.is) c.requires.proper in
    let n = tags_nesting ty c.deref.result.now c.deref.ensures.value in
    (omega (arith, p.1, n), (tags_proper ty c.deref.result.now c.deref.ensures.value p.0, (omega (arith, p.1, n, c.requires.depth), (c.requires.header, c.requires.room))))

pub chosen-below-requires : goal.chosen-below-requires
chosen-below-requires t c =
    let ty = (out-Comp (get_or c.args.alternatives.now c.in-Some.place c.index-alternatives-place.result)).ty in
    let p = part_is c.args.alternatives.now c.in-Some.place (get_or c.args.alternatives.now c.in-Some.place c.index-alternatives-place.result) c.in-Some.ensures.within (ap (λ x. get_or c.args.alternatives.now c.in-Some.place x) c.index-alternatives-place.is) c.requires.proper in
    room_below _ (whole c.deref.result.now (kind_view (out-Ty ty).kind)) c.args.at (head_view c.args.head) c.args.octets.now (tags_proper ty c.deref.result.now c.deref.ensures.value p.0)
    (omega (arith, p.1, tags_nesting ty c.deref.result.now c.deref.ensures.value, c.requires.depth)) c.in-Err.ensures

pub chosen-returns-in_ok-new-in-Ok : goal.chosen-returns-in_ok-new-in-Ok
chosen-returns-in_ok-new-in-Ok t c =
    let ty = (out-Comp (get_or c.args.alternatives.now c.in-Some.place c.index-alternatives-place.result)).ty in
    let p = part_is c.args.alternatives.now c.in-Some.place (get_or c.args.alternatives.now c.in-Some.place c.index-alternatives-place.result) c.in-Some.ensures.within (ap (λ x. get_or c.args.alternatives.now c.in-Some.place x) c.index-alternatives-place.is) c.requires.proper in
    let read = p.2 c.args.at (head_view c.args.head) c.args.octets.now ∙ tags_element ty c.deref.result.now c.args.at (head_view c.args.head) c.args.octets.now c.deref.ensures.value ∙ c.in-Ok.ensures in
    rw (value_view_chosen c.in-Some.place c.in_ok-new-in-Ok.field-0, c.in_ok-new-in-Ok.ensures.ok) (chosen_some (in_view c.args.alternatives.now) c.in-Some.place c.args.at (head_view c.args.head) c.args.octets.now (value_view c.in-Ok.value) (sym c.in-Some.ensures.place) read)

pub chosen-returns-in-Err : goal.chosen-returns-in-Err
chosen-returns-in-Err t c =
    let ty = (out-Comp (get_or c.args.alternatives.now c.in-Some.place c.index-alternatives-place.result)).ty in
    let p = part_is c.args.alternatives.now c.in-Some.place (get_or c.args.alternatives.now c.in-Some.place c.index-alternatives-place.result) c.in-Some.ensures.within (ap (λ x. get_or c.args.alternatives.now c.in-Some.place x) c.index-alternatives-place.is) c.requires.proper in
    let same = p.2 c.args.at (head_view c.args.head) c.args.octets.now ∙ tags_element ty c.deref.result.now c.args.at (head_view c.args.head) c.args.octets.now c.deref.ensures.value in
    rw c.below.ensures (chosen_refused _ (in_view c.args.alternatives.now) c.in-Some.place c.args.at (head_view c.args.head) c.args.octets.now (sym c.in-Some.ensures.place) (refuses_as _ _ _ same c.in-Err.ensures))

-- ---- component

pub component-returns-in_err-not_sent-clause-given : goal.component-returns-in_err-not_sent-clause-given
component-returns-in_err-not_sent-clause-given t c =
    let p = err_from_is_err_and c.from_residual.result c.from_residual.ensures.1 in
    let named = c.below-missing.ensures ∙ ap (option_map (below (Component c.args.index))) c.fault_at.ensures in
    rw (p.1, p.2) (decodings.end_refused c.args.index (presence_view c.args.presence.now) (begins_with (type_view c.args.ty.now)) (element_at (type_view c.args.ty.now)) c.args.at c.args.octets.now
    _ (sym c.is_empty.ensures ∙ c.if-is_empty.true) (c.in_err-not_sent.ensures _ (missing_at c.args.index c.args.at) named))

pub component-returns-then-is_empty-clause-given : goal.component-returns-then-is_empty-clause-given
component-returns-then-is_empty-clause-given t c =
    let named = c.below-missing.ensures ∙ ap (option_map (below (Component c.args.index))) c.fault_at.ensures in
    end_ok c.args.index (presence_view c.args.presence.now) (begins_with (type_view c.args.ty.now)) (element_at (type_view c.args.ty.now)) c.args.at c.args.octets.now (field_view c.in_ok-not_sent.field-0)
    (sym c.is_empty.ensures ∙ c.if-is_empty.true) (c.in_ok-not_sent.ensures _ (missing_at c.args.index c.args.at) named)

pub component-returns-in_err-head-clause-given : goal.component-returns-in_err-head-clause-given
component-returns-in_err-head-clause-given t c =
    let p = err_from_is_err_and c.from_residual-in_err-head.result c.from_residual-in_err-head.ensures.1 in
    rw (p.1, p.2) (no_header c.args.index (presence_view c.args.presence.now) (begins_with (type_view c.args.ty.now)) (element_at (type_view c.args.ty.now)) c.args.at c.args.octets.now
    _ (sym c.is_empty.ensures ∙ c.if-is_empty.false) c.in_err-head.ensures)

pub component-returns-in_err-not_sent-2-clause-given : goal.component-returns-in_err-not_sent-2-clause-given
component-returns-in_err-not_sent-2-clause-given t c =
    let p = err_from_is_err_and c.from_residual-in_err-not_sent-2.result c.from_residual-in_err-not_sent-2.ensures.1 in
    rw (p.1, p.2) (stray_refused c.args.index (presence_view c.args.presence.now) (begins_with (type_view c.args.ty.now)) (element_at (type_view c.args.ty.now)) c.args.at c.args.octets.now (head_view c.in_ok-head.head)
    (sym c.is_empty.ensures ∙ c.if-is_empty.false) c.in_ok-head.ensures _ (sym c.begins_with.ensures ∙ c.if-not-begins_with.true) (c.in_err-not_sent-2.ensures _ (fault code.UnexpectedTag c.args.at) c.fault_at-stray.ensures))

pub component-returns-then-not-begins_with-clause-given : goal.component-returns-then-not-begins_with-clause-given
component-returns-then-not-begins_with-clause-given t c =
    stray_ok c.args.index (presence_view c.args.presence.now) (begins_with (type_view c.args.ty.now)) (element_at (type_view c.args.ty.now)) c.args.at c.args.octets.now (head_view c.in_ok-head.head)
    (sym c.is_empty.ensures ∙ c.if-is_empty.false) c.in_ok-head.ensures (field_view c.in_ok-not_sent-2.field-0) (sym c.begins_with.ensures ∙ c.if-not-begins_with.true) (c.in_ok-not_sent-2.ensures _ (fault code.UnexpectedTag c.args.at) c.fault_at-stray.ensures)

pub component-sent-requires : goal.component-sent-requires
component-sent-requires t c = (omega arith, (c.requires.proper, (c.requires.depth, (located_is c.args.at (head_of c.args.octets.now) (head_view c.in_ok-head.head) c.in_ok-head.ensures, c.requires.room))))

pub component-returns-in_err-value-clause-given : goal.component-returns-in_err-value-clause-given
component-returns-in_err-value-clause-given t c =
    let p = err_from_is_err_and c.from_residual-in_err-value.result c.from_residual-in_err-value.ensures.1 in
    rw (p.1, p.2) (component_refused c.args.index (presence_view c.args.presence.now) (begins_with (type_view c.args.ty.now)) (element_at (type_view c.args.ty.now)) c.args.at c.args.octets.now (head_view c.in_ok-head.head)
    (sym c.is_empty.ensures ∙ c.if-is_empty.false) c.in_ok-head.ensures _ (sym c.begins_with.ensures ∙ c.if-not-begins_with.false) c.in_err-value.ensures)

pub component-overflow_add-result : goal.component-overflow_add-result
component-overflow_add-result t c = omega (arith, c.requires.room, head_room c.args.octets.now (head_view c.in_ok-head.head) (are_digits 256 c.args.octets.now (λ i _. omega (arith, c.type_inv.octets i))) (located_is c.args.at (head_of c.args.octets.now) (head_view c.in_ok-head.head) c.in_ok-head.ensures))

pub component-returns-clause-within : goal.component-returns-clause-within
component-returns-clause-within t c = head_room c.args.octets.now (head_view c.in_ok-head.head) (are_digits 256 c.args.octets.now (λ i _. omega (arith, c.type_inv.octets i))) (located_is c.args.at (head_of c.args.octets.now) (head_view c.in_ok-head.head) c.in_ok-head.ensures)

pub component-returns-clause-given : goal.component-returns-clause-given
component-returns-clause-given t c =
    component_ok c.args.index (presence_view c.args.presence.now) (begins_with (type_view c.args.ty.now)) (element_at (type_view c.args.ty.now)) c.args.at c.args.octets.now (head_view c.in_ok-head.head)
    (sym c.is_empty.ensures ∙ c.if-is_empty.false) c.in_ok-head.ensures (value_view c.in_ok-value.value) (sym c.begins_with.ensures ∙ c.if-not-begins_with.false) c.in_ok-value.ensures

-- ---- a component that is sent

pub sent-element-requires : goal.sent-element-requires
sent-element-requires t c =
    let n = tags_nesting c.args.ty.now c.deref.result.now c.deref.ensures.value in
    (omega (arith, n), (tags_proper c.args.ty.now c.deref.result.now c.deref.ensures.value c.requires.proper, (omega (arith, n, c.requires.depth), (c.requires.header, c.requires.room))))

pub sent-returns-then-is_left_out : goal.sent-returns-then-is_left_out
sent-returns-then-is_left_out t c =
    let read = tags_element c.args.ty.now c.deref.result.now c.args.at (head_view c.args.head) c.args.octets.now c.deref.ensures.value ∙ c.in-Ok.ensures in
    rw (c.below.ensures, c.fault_at.ensures) (sent_default c.args.index (presence_view c.args.presence.now) (element_at (type_view c.args.ty.now)) c.args.at (head_view c.args.head) c.args.octets.now (value_view c.in-Ok.value) read (sym c.is_left_out.ensures ∙ c.if-is_left_out.true))

pub sent-returns-else-is_left_out : goal.sent-returns-else-is_left_out
sent-returns-else-is_left_out t c =
    let read = tags_element c.args.ty.now c.deref.result.now c.args.at (head_view c.args.head) c.args.octets.now c.deref.ensures.value ∙ c.in-Ok.ensures in
    sent_again c.args.index (presence_view c.args.presence.now) (element_at (type_view c.args.ty.now)) c.args.at (head_view c.args.head) c.args.octets.now (value_view c.in-Ok.value) read (sym c.is_left_out.ensures ∙ c.if-is_left_out.false)

pub sent-below-requires-in-Err : goal.sent-below-requires-in-Err
sent-below-requires-in-Err t c =
    room_below _ (whole c.deref.result.now (kind_view (out-Ty c.args.ty.now).kind)) c.args.at (head_view c.args.head) c.args.octets.now (tags_proper c.args.ty.now c.deref.result.now c.deref.ensures.value c.requires.proper)
    (omega (arith, tags_nesting c.args.ty.now c.deref.result.now c.deref.ensures.value, c.requires.depth)) c.in-Err.ensures

pub sent-returns-in-Err : goal.sent-returns-in-Err
sent-returns-in-Err t c =
    let same = tags_element c.args.ty.now c.deref.result.now c.args.at (head_view c.args.head) c.args.octets.now c.deref.ensures.value in
    rw c.below-in-Err.ensures (sent_refused c.args.index (presence_view c.args.presence.now) (element_at (type_view c.args.ty.now)) c.args.at (head_view c.args.head) c.args.octets.now _ (refuses_as _ _ _ same c.in-Err.ensures))

-- ---- components

pub contents-components-requires : goal.contents-components-requires
contents-components-requires t c =
    let p = sequence_parts c.args.kind.now c.in-Sequence.comps c.in-Sequence.is c.requires.proper in
    let d = ap (λ x. deepest (in_view x)) c.deref.ensures.value in
    (omega (arith, p.2, d), (rw c.deref.ensures.value p.0, (rw c.deref.ensures.value p.1, (omega (arith, p.2, d, c.requires.depth), c.requires.room))))

pub contents-returns-in_ok-components-in-Sequence : goal.contents-returns-in_ok-components-in-Sequence
contents-returns-in_ok-components-in-Sequence t c =
    sequence_given c.args.kind.now c.in-Sequence.comps c.in_ok-components-in-Sequence.field-0 c.args.at c.args.start c.args.octets.now c.in-Sequence.is (rw c.deref.ensures.value at c.in_ok-components-in-Sequence.ensures)

pub components-component-requires : goal.components-component-requires
components-component-requires t c =
    let l = left_proper c.args.comps.now c.loop-index.index c.index-comps-index.result c.loop-index-test.true c.index-comps-index.is c.loop-index.invariant.proper c.loop-index.invariant.depth in
    let p = part_is c.args.comps.now c.loop-index.index c.index-comps-index.result c.loop-index-test.true c.index-comps-index.is c.requires.proper in
    (omega (arith, p.1), (l.0, (l.1, c.loop-index.invariant.room)))

pub components-returns-in_err-field : goal.components-returns-in_err-field
components-returns-in_err-field t c =
    let p = err_from_is_err_and c.from_residual-in_err-field.result c.from_residual-in_err-field.ensures.1 in
    rw (p.1, p.2) (refused _ c.args.comps.now c.loop-index.index c.index-comps-index.result (map slot_view c.loop-index.fields.items) c.loop-index.at c.loop-index.rest.now
    (fields_at 0 (in_view c.args.comps.now) c.args.start c.args.octets.now) c.loop-index-test.true c.index-comps-index.is c.in_err-field.ensures.given c.loop-index.invariant.so_far)

pub components-loop-index-preserved : goal.components-loop-index-preserved
components-loop-index-preserved t c =
    let l = left_proper c.args.comps.now c.loop-index.index c.index-comps-index.result c.loop-index-test.true c.index-comps-index.is c.loop-index.invariant.proper c.loop-index.invariant.depth in
    let pushed : map slot_view c.push.new.self.items ≡ map slot_view c.loop-index.fields.items ++ field_view c.in_ok-field.field ∷ [] = rw (c.in_ok-push.ensures.items, sym c.in_ok-new.ensures.ok) (map_push slot_view c.loop-index.fields.items c.in_ok-new.field-0) in
    let on = goes_on c.args.comps.now c.loop-index.index c.index-comps-index.result (map slot_view c.loop-index.fields.items) c.loop-index.at c.in_ok-field.size c.loop-index.rest.now (field_view c.in_ok-field.field)
    (fields_at 0 (in_view c.args.comps.now) c.args.start c.args.octets.now) c.loop-index-test.true c.index-comps-index.is c.in_ok-field.ensures.given c.loop-index.invariant.so_far in
    record {
      so_far = rw (pushed, c.split_at.ensures.back) on;
      proper = l.2;
      depth = l.3;
      room = rw c.split_at.ensures.back (omega (arith, c.loop-index.invariant.room, c.in_ok-field.ensures.within, length-drop c.in_ok-field.size c.loop-index.rest.now));
    }

pub components-returns-in_err-end : goal.components-returns-in_err-end
components-returns-in_err-end t c =
    let p = err_from_is_err_and c.from_residual-in_err-end.result c.from_residual-in_err-end.ensures.1 in
    rw (p.1, p.2) (end_refused _ c.args.comps.now c.loop-index.index (map slot_view c.loop-index.fields.items) c.loop-index.at c.loop-index.rest.now
    (fields_at 0 (in_view c.args.comps.now) c.args.start c.args.octets.now) c.loop-index-test.false c.in_err-end.ensures c.loop-index.invariant.so_far)

pub components-returns : goal.components-returns
components-returns t c =
    rw c.in_ok-from_vec.ensures (is_done c.args.comps.now c.loop-index.index (map slot_view c.loop-index.fields.items) c.loop-index.at c.loop-index.rest.now
    (fields_at 0 (in_view c.args.comps.now) c.args.start c.args.octets.now) c.loop-index-test.false c.in_ok-end.ensures c.loop-index.invariant.so_far)

-- ---- elements of an OF type

pub contents-returns-in_err-items-in-SequenceOf : goal.contents-returns-in_err-items-in-SequenceOf
contents-returns-in_err-items-in-SequenceOf t c =
    let p = err_from_is_err_and c.from_residual-in_err-items-in-SequenceOf.result c.from_residual-in_err-items-in-SequenceOf.ensures.1 in
    rw (p.1, p.2) (contents_refused _ (contents_at (kind_view c.args.kind.now) c.args.at c.args.start c.args.octets.now) _
    (sequence_of_contents c.args.kind.now c.in-SequenceOf.element c.args.at c.args.start c.args.octets.now c.in-SequenceOf.is) (rw c.deref-in-SequenceOf.ensures at c.in_err-items-in-SequenceOf.ensures))

pub contents-returns-in_ok-items-in-SequenceOf : goal.contents-returns-in_ok-items-in-SequenceOf
contents-returns-in_ok-items-in-SequenceOf t c =
    contents_read c.in_ok-items-in-SequenceOf.field-0 (contents_at (kind_view c.args.kind.now) c.args.at c.args.start c.args.octets.now) _
    (sequence_of_contents c.args.kind.now c.in-SequenceOf.element c.args.at c.args.start c.args.octets.now c.in-SequenceOf.is) (rw c.deref-in-SequenceOf.ensures at c.in_ok-items-in-SequenceOf.ensures)

pub contents-returns-in_err-items-in-SetOf : goal.contents-returns-in_err-items-in-SetOf
contents-returns-in_err-items-in-SetOf t c =
    let p = err_from_is_err_and c.from_residual-in_err-items-in-SetOf.result c.from_residual-in_err-items-in-SetOf.ensures.1 in
    rw (p.1, p.2) (contents_refused _ (contents_at (kind_view c.args.kind.now) c.args.at c.args.start c.args.octets.now) _
    (set_of_contents c.args.kind.now c.in-SetOf.element c.args.at c.args.start c.args.octets.now c.in-SetOf.is) (rw c.deref-in-SetOf.ensures at c.in_err-items-in-SetOf.ensures))

pub contents-returns-in_ok-items-in-SetOf : goal.contents-returns-in_ok-items-in-SetOf
contents-returns-in_ok-items-in-SetOf t c =
    contents_read c.in_ok-items-in-SetOf.field-0 (contents_at (kind_view c.args.kind.now) c.args.at c.args.start c.args.octets.now) _
    (set_of_contents c.args.kind.now c.in-SetOf.element c.args.at c.args.start c.args.octets.now c.in-SetOf.is) (rw c.deref-in-SetOf.ensures at c.in_ok-items-in-SetOf.ensures)

pub items-returns-in_err-value : goal.items-returns-in_err-value
items-returns-in_err-value t c =
    let place : c.len.result ≡ length c.loop-before.items.items = omega (arith, c.len.ensures, c.loop-before.items.ok.0) in
    let p = err_from_is_err_and c.from_residual.result c.from_residual.ensures.1 in
    rw (p.1, p.2) (items_refused _ (type_view c.args.ty.now) c.args.ordered (length c.args.octets.now) c.loop-before.items.items c.loop-before.before.now c.loop-before.at c.loop-before.rest.now _
    (sym c.is_empty.ensures ∙ c.loop-before-test.true) c.loop-before.invariant.counted (rw place at c.in_err-value.ensures.given) c.loop-before.invariant.so_far)

pub items-loop-before-preserved : goal.items-loop-before-preserved
items-loop-before-preserved t c =
    let place : c.len.result ≡ length c.loop-before.items.items = omega (arith, c.len.ensures, c.loop-before.items.ok.0) in
    let on = items_go_on (type_view c.args.ty.now) c.args.ordered (length c.args.octets.now) c.loop-before.items.items c.in_ok-value.value c.loop-before.before.now c.loop-before.at c.in_ok-value.size c.loop-before.rest.now _
    (sym c.is_empty.ensures ∙ c.loop-before-test.true) c.loop-before.invariant.counted (rw place at c.in_ok-value.ensures.given) c.loop-before.invariant.so_far in
    let pushed : length c.push.new.self.items ≡ length c.loop-before.items.items + 1 = rw c.in_ok-push.ensures.items (length-append c.loop-before.items.items (c.in_ok-value.value ∷ [])) in
    let behind : length c.split_at.result.1.now ≡ length c.loop-before.rest.now - c.in_ok-value.size = rw c.split_at.ensures.back (length-drop c.in_ok-value.size c.loop-before.rest.now) in
    record {
      so_far = rw (c.in_ok-push.ensures.items, c.split_at.ensures.front, c.split_at.ensures.back) on;
      counted = omega (arith, pushed, behind, c.in_ok-value.ensures.some, c.in_ok-value.ensures.within, c.loop-before.invariant.counted);
      room = omega (arith, behind, c.in_ok-value.ensures.within, c.loop-before.invariant.room);
    }

pub items-returns : goal.items-returns
items-returns t c =
    rw c.in_ok-from_vec.ensures (items_done (type_view c.args.ty.now) c.args.ordered (length c.args.octets.now) c.loop-before.items.items c.loop-before.before.now c.loop-before.at c.loop-before.rest.now _
    (sym c.is_empty.ensures ∙ c.loop-before-test.false) c.loop-before.invariant.so_far)

pub item-below-requires : goal.item-below-requires
item-below-requires t c =
    room_below_item _ (type_view c.args.ty.now) c.args.ordered c.args.before.now c.args.at c.args.octets.now c.requires.proper (omega (arith, c.requires.depth)) c.in-Err.ensures.given

pub item-returns-in-Ok-clause-given : goal.item-returns-in-Ok-clause-given
item-returns-in-Ok-clause-given t c =
    item_reads c.args.ordered (begins_with (type_view c.args.ty.now)) (element_at (type_view c.args.ty.now)) c.args.index c.args.before.now c.args.at c.args.octets.now (value_view c.in-Ok.value, c.in-Ok.size) c.in-Ok.ensures.given

pub item-returns-in-Err-clause-given : goal.item-returns-in-Err-clause-given
item-returns-in-Err-clause-given t c =
    rw c.below.ensures (item_refused _ c.args.ordered (begins_with (type_view c.args.ty.now)) (element_at (type_view c.args.ty.now)) c.args.index c.args.before.now c.args.at c.args.octets.now c.in-Err.ensures.given)

pub next_item-returns-in_err-head-clause-given : goal.next_item-returns-in_err-head-clause-given
next_item-returns-in_err-head-clause-given t c =
    let p = err_from_is_err_and c.from_residual.result c.from_residual.ensures.1 in
    let w = whole c.deref.result.now (kind_view (out-Ty c.args.ty.now).kind) in
    rw (p.1, p.2) (refuses_as _ _ _ (item_tags c.args.ty.now c.deref.result.now c.args.ordered c.args.before.now c.args.at c.args.octets.now c.deref.ensures.value)
    (item_not_due _ c.args.ordered (begins_with w) (element_at w) c.args.before.now c.args.at c.args.octets.now c.in_err-head.ensures))

pub next_item-element-requires : goal.next_item-element-requires
next_item-element-requires t c =
    let n = tags_nesting c.args.ty.now c.deref-2.result.now c.deref-2.ensures.value in
    let h = due_ok (begins_with (whole c.deref.result.now (kind_view (out-Ty c.args.ty.now).kind))) c.args.at c.args.octets.now (head_view c.in_ok-head.head) c.in_ok-head.ensures in
    (omega (arith, n), (tags_proper c.args.ty.now c.deref-2.result.now c.deref-2.ensures.value c.requires.proper, (omega (arith, n, c.requires.depth), (h.0, c.requires.room))))

pub next_item-returns-in_err-value-clause-given : goal.next_item-returns-in_err-value-clause-given
next_item-returns-in_err-value-clause-given t c =
    let p = err_from_is_err_and c.from_residual-in_err-value.result c.from_residual-in_err-value.ensures.1 in
    let w = whole c.deref.result.now (kind_view (out-Ty c.args.ty.now).kind) in
    let same = c.deref-2.ensures.value ∙ sym c.deref.ensures.value in
    rw (p.1, p.2) (refuses_as _ _ _ (item_tags c.args.ty.now c.deref.result.now c.args.ordered c.args.before.now c.args.at c.args.octets.now c.deref.ensures.value)
    (item_not_read _ c.args.ordered (begins_with w) (element_at w) c.args.before.now c.args.at c.args.octets.now (head_view c.in_ok-head.head) c.in_ok-head.ensures (rw same at c.in_err-value.ensures)))

pub next_item-overflow_add-size : goal.next_item-overflow_add-size
next_item-overflow_add-size t c =
    omega (arith, c.requires.room, due_room (begins_with (whole c.deref.result.now (kind_view (out-Ty c.args.ty.now).kind))) c.args.at c.args.octets.now (head_view c.in_ok-head.head) (are_digits 256 c.args.octets.now (λ i _. omega (arith, c.type_inv.octets i))) c.in_ok-head.ensures)

pub next_item-split_at-requires : goal.next_item-split_at-requires
next_item-split_at-requires t c =
    due_room (begins_with (whole c.deref.result.now (kind_view (out-Ty c.args.ty.now).kind))) c.args.at c.args.octets.now (head_view c.in_ok-head.head) (are_digits 256 c.args.octets.now (λ i _. omega (arith, c.type_inv.octets i))) c.in_ok-head.ensures

pub next_item-returns-then-is_out_of_order-clause-given : goal.next_item-returns-then-is_out_of_order-clause-given
next_item-returns-then-is_out_of_order-clause-given t c =
    let w = whole c.deref.result.now (kind_view (out-Ty c.args.ty.now).kind) in
    let same = c.deref-2.ensures.value ∙ sym c.deref.ensures.value in
    let down = sym (rw c.split_at.ensures.front at c.is_out_of_order.ensures) ∙ c.if-is_out_of_order.true in
    rw c.fault_at.ensures (item_tags c.args.ty.now c.deref.result.now c.args.ordered c.args.before.now c.args.at c.args.octets.now c.deref.ensures.value
    ∙ item_descends c.args.ordered (begins_with w) (element_at w) c.args.before.now c.args.at c.args.octets.now (head_view c.in_ok-head.head) (value_view c.in_ok-value.value) c.in_ok-head.ensures (rw same at c.in_ok-value.ensures) down)

pub next_item-returns-clause-some : goal.next_item-returns-clause-some
next_item-returns-clause-some t c =
    due_some (begins_with (whole c.deref.result.now (kind_view (out-Ty c.args.ty.now).kind))) c.args.at c.args.octets.now (head_view c.in_ok-head.head) (are_digits 256 c.args.octets.now (λ i _. omega (arith, c.type_inv.octets i))) c.in_ok-head.ensures

pub next_item-returns-clause-given : goal.next_item-returns-clause-given
next_item-returns-clause-given t c =
    let w = whole c.deref.result.now (kind_view (out-Ty c.args.ty.now).kind) in
    let same = c.deref-2.ensures.value ∙ sym c.deref.ensures.value in
    let up = sym (rw c.split_at.ensures.front at c.is_out_of_order.ensures) ∙ c.if-is_out_of_order.false in
    item_tags c.args.ty.now c.deref.result.now c.args.ordered c.args.before.now c.args.at c.args.octets.now c.deref.ensures.value
    ∙ item_is_read c.args.ordered (begins_with w) (element_at w) c.args.before.now c.args.at c.args.octets.now (head_view c.in_ok-head.head) (value_view c.in_ok-value.value) c.in_ok-head.ensures (rw same at c.in_ok-value.ensures) up

-- ---- SET

pub contents-set_components-requires : goal.contents-set_components-requires
contents-set_components-requires t c =
    let p = set_parts c.args.kind.now c.in-Set.comps c.in-Set.is c.requires.proper in
    let d = ap (λ x. deepest (in_view x)) c.deref-in-Set.ensures.value in
    (omega (arith, p.2, d), (rw c.deref-in-Set.ensures.value p.0, (rw c.deref-in-Set.ensures.value p.1, (omega (arith, p.2, d, c.requires.depth), c.requires.room))))

pub contents-returns-in_err-set_components-in-Set : goal.contents-returns-in_err-set_components-in-Set
contents-returns-in_err-set_components-in-Set t c =
    let p = err_from_is_err_and c.from_residual-in_err-set_components-in-Set.result c.from_residual-in_err-set_components-in-Set.ensures.1 in
    rw (p.1, p.2) (set_refused _ c.args.kind.now c.in-Set.comps c.args.at c.args.start c.args.octets.now c.in-Set.is (rw c.deref-in-Set.ensures.value at c.in_err-set_components-in-Set.ensures))

pub contents-returns-in_ok-set_components-in-Set : goal.contents-returns-in_ok-set_components-in-Set
contents-returns-in_ok-set_components-in-Set t c =
    set_given c.args.kind.now c.in-Set.comps c.in_ok-set_components-in-Set.field-0 c.args.at c.args.start c.args.octets.now c.in-Set.is (rw c.deref-in-Set.ensures.value at c.in_ok-set_components-in-Set.ensures)

pub set_component-returns-in_err-head-clause-given : goal.set_component-returns-in_err-head-clause-given
set_component-returns-in_err-head-clause-given t c =
    let p = err_from_is_err_and c.from_residual.result c.from_residual.ensures.1 in
    let cs = in_view c.args.comps.now in
    rw (p.1, p.2) (set_components.no_header _ cs (part_at cs) (fields_view c.args.fields.now) c.args.before c.args.at c.args.octets.now c.in_err-head.ensures)

pub set_component-returns-in_err-place-clause-given : goal.set_component-returns-in_err-place-clause-given
set_component-returns-in_err-place-clause-given t c =
    let p = err_from_is_err_and c.from_residual-in_err-place.result c.from_residual-in_err-place.ensures.1 in
    let cs = in_view c.args.comps.now in
    rw (p.1, p.2) (set_components.no_place _ cs (part_at cs) (fields_view c.args.fields.now) c.args.before c.args.at c.args.octets.now (head_view c.in_ok-head.head) c.in_ok-head.ensures c.in_err-place.ensures.given)

pub set_component-sent-requires : goal.set_component-sent-requires
set_component-sent-requires t c =
    let p = part_is c.args.comps.now c.in_ok-place.place c.index-comps-place.result c.in_ok-place.ensures.within c.index-comps-place.is c.requires.proper in
    (omega (arith, p.1), (p.0, (omega (arith, p.1, c.requires.depth), (located_is c.args.at (head_of c.args.octets.now) (head_view c.in_ok-head.head) c.in_ok-head.ensures, c.requires.room))))

pub set_component-returns-in_err-value-clause-given : goal.set_component-returns-in_err-value-clause-given
set_component-returns-in_err-value-clause-given t c =
    let q = err_from_is_err_and c.from_residual-in_err-value.result c.from_residual-in_err-value.ensures.1 in
    let cs = in_view c.args.comps.now in
    let h = head_view c.in_ok-head.head in
    let same = sent_part c.args.comps.now c.in_ok-place.place c.index-comps-place.result c.args.at h c.args.octets.now c.in_ok-place.ensures.within c.index-comps-place.is c.requires.proper in
    rw (q.1, q.2) (element_refused cs (part_at cs) (fields_view c.args.fields.now) c.args.before c.args.at c.args.octets.now h c.in_ok-place.place c.in_ok-head.ensures c.in_ok-place.ensures.given
    _ (refuses_as _ _ _ same c.in_err-value.ensures))

pub set_component-returns-clause-some : goal.set_component-returns-clause-some
set_component-returns-clause-some t c = head_size c.args.octets.now (head_view c.in_ok-head.head) (are_digits 256 c.args.octets.now (λ i _. omega (arith, c.type_inv.octets i))) (located_is c.args.at (head_of c.args.octets.now) (head_view c.in_ok-head.head) c.in_ok-head.ensures)

pub set_component-returns-clause-within : goal.set_component-returns-clause-within
set_component-returns-clause-within t c = head_room c.args.octets.now (head_view c.in_ok-head.head) (are_digits 256 c.args.octets.now (λ i _. omega (arith, c.type_inv.octets i))) (located_is c.args.at (head_of c.args.octets.now) (head_view c.in_ok-head.head) c.in_ok-head.ensures)

pub set_component-returns-clause-given : goal.set_component-returns-clause-given
set_component-returns-clause-given t c =
    let cs = in_view c.args.comps.now in
    let h = head_view c.in_ok-head.head in
    let same = sent_part c.args.comps.now c.in_ok-place.place c.index-comps-place.result c.args.at h c.args.octets.now c.in_ok-place.ensures.within c.index-comps-place.is c.requires.proper in
    element_is_read cs (part_at cs) (fields_view c.args.fields.now) c.args.before c.args.at c.args.octets.now h c.in_ok-place.place c.in_ok-head.ensures c.in_ok-place.ensures.given (value_view c.in_ok-value.value) (same ∙ c.in_ok-value.ensures)

pub set_components-returns-in_err-place : goal.set_components-returns-in_err-place
set_components-returns-in_err-place t c =
    let p = err_from_is_err_and c.from_residual-in_err-place.result c.from_residual-in_err-place.ensures.1 in
    rw (p.1, p.2) (set_components.stops _ (in_view c.args.comps.now) (fields_view c.loop-rest.fields.items) c.loop-rest.before c.loop-rest.at c.loop-rest.rest.now
    (set_read c.args.comps.now c.args.start c.args.octets.now) (sym c.is_empty.ensures ∙ c.loop-rest-test.true) (rw c.deref.ensures.value at c.in_err-place.ensures.given) c.loop-rest.invariant.so_far)

pub set_components-overflow_add-size : goal.set_components-overflow_add-size
set_components-overflow_add-size t c = omega (arith, c.in_ok-place.ensures.within, c.loop-rest.invariant.room)

pub set_components-split_at-requires : goal.set_components-split_at-requires
set_components-split_at-requires t c = omega (arith, c.in_ok-place.ensures.within)

pub set_components-loop-rest-smaller : goal.set_components-loop-rest-smaller
set_components-loop-rest-smaller t c = rw c.split_at.ensures.back (omega (arith, c.in_ok-place.ensures.within, c.in_ok-place.ensures.some, length-drop (c.in_ok-place.head.size + c.in_ok-place.head.contents) c.loop-rest.rest.now))

pub set_components-loop-rest-preserved : goal.set_components-loop-rest-preserved
set_components-loop-rest-preserved t c =
    let place = c.in_ok-place.place in
    let head = c.in_ok-place.head in
    let within : place < length c.loop-rest.fields.items = omega (arith, c.in_ok-place.ensures.place, c.loop-rest.invariant.count) in
    let filled = ap fields_view c.set_field.ensures ∙ field_filled c.loop-rest.fields.items place c.in_ok-new.field-0 c.in_ok-place.value c.in_ok-new.ensures.ok within in
    let on = set_components.goes_on (in_view c.args.comps.now) (fields_view c.loop-rest.fields.items) c.loop-rest.before c.loop-rest.at c.loop-rest.rest.now place (value_view c.in_ok-place.value) (head_view head)
    (set_read c.args.comps.now c.args.start c.args.octets.now) (sym c.is_empty.ensures ∙ c.loop-rest-test.true) c.in_ok-place.ensures.some (rw c.deref.ensures.value at c.in_ok-place.ensures.given) c.loop-rest.invariant.so_far in
    record {
      so_far = rw (filled, c.split_at.ensures.back) on;
      count = ap length c.set_field.ensures ∙ length-set c.loop-rest.fields.items place _ ∙ c.loop-rest.invariant.count;
      room = rw c.split_at.ensures.back (omega (arith, c.loop-rest.invariant.room, c.in_ok-place.ensures.within, length-drop (head.size + head.contents) c.loop-rest.rest.now));
    }

pub set_components-returns : goal.set_components-returns
set_components-returns t c =
    subst (λ r. Gives (λ v. fields_view (arc_slice_items v)) (fault_of c.completed.new.path.items) c.completed.result r)
    (set_components.ends (in_view c.args.comps.now) (fields_view c.loop-rest.fields.items) c.loop-rest.before c.loop-rest.at c.loop-rest.rest.now (set_read c.args.comps.now c.args.start c.args.octets.now) (sym c.is_empty.ensures ∙ c.loop-rest-test.false) c.loop-rest.invariant.so_far)
    c.completed.ensures
