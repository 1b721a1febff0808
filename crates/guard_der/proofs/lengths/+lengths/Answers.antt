use Rattle.std.proofs.Common.{rules, List, map, Option, Some, None, refl, sym, ap, ◌∙◌, arith}
use Rattle.std.specs.Arc.{arc_slice_items}
use Rattle.guard_model.specs.declared.tag.Tag.{Tag}
use Rattle.guard_model.specs.declared.ty.Kind.{the_lemmas}
use Rattle.guard_model.specs.declared.ty.Kind.TheViews.{out-Ty}
use Rattle.guard_model.specs.TypeView.{component_view, components_of}
use Rattle.guard_model.specs.ValueView.{value_view, fields_view}
use Rattle.guard_der.specs.Der.{Part, der, alternative_octets, parts_of}
use Rattle.guard_der.specs.Encoding.{short_length, length_in}
use Rattle.guard_der.specs.Fits.{fits, fits_alternative}
use Rattle.guard_der.specs.inside.EncodingSteps.{sequence_octets}
use Rattle.guard_der.proofs.Functions.Encoding.{sequence_fits, set_fits, sequence_contents, set_contents, sequence_of_contents, next_fits, uneven_parts, others}
use Rattle.guard_der.proofs.Functions.Lengths.{after_none, none_in, part_long, parts_on, set_short, sum_long, whole_length}
use Rattle.guard_der.proofs.Functions.Places.{found_at, none_at}
use Rattle.guard_der.proofs.lengths.+lengths.Goals as goal

-- ---- the whole

pub encoded_length-returns-in_err-contents : goal.encoded_length-returns-in_err-contents
encoded_length-returns-in_err-contents t c =
    let tags = (out-Ty c.args.ty.now).tags.items in
    c.from_residual.ensures ∙ sym (whole_length c.args.ty.now (value_view c.args.value.now) ∙ ap (length_in tags) (sym c.contents_length.ensures ∙ c.in_err-contents.was) ∙ none_in tags)

pub encoded_length-returns : goal.encoded_length-returns
encoded_length-returns t c =
    let tags = (out-Ty c.args.ty.now).tags.items in
    c.length_in.ensures.value
    ∙ ap (λ (ts : List Tag). length_in ts (Some c.in_ok-contents.contents)) c.deref.ensures.value
    ∙ sym (whole_length c.args.ty.now (value_view c.args.value.now) ∙ ap (length_in tags) (sym c.contents_length.ensures ∙ c.in_ok-contents.was))

-- ---- alternative

pub alternative_length-returns-then-at-alternatives : goal.alternative_length-returns-then-at-alternatives
alternative_length-returns-then-at-alternatives t c =
    sym (ap short_length (none_at None (λ cs i. alternative_octets cs i (value_view c.args.value.now)) (λ i. refl) (λ name t p rest i. refl) c.args.alternatives.now c.args.at c.if-at-alternatives.true))

pub alternative_length-encoded_length-requires : goal.alternative_length-encoded_length-requires
alternative_length-encoded_length-requires t c =
    (search (rules, the_lemmas), sym (found_at (λ t. fits t (value_view c.args.value.now)) (λ cs i. fits_alternative cs i (value_view c.args.value.now)) (λ name t p rest. refl) (λ name t p rest i. refl) c.args.alternatives.now c.args.at c.index-alternatives-at.result c.if-at-alternatives.false) ∙ c.requires)

pub alternative_length-returns : goal.alternative_length-returns
alternative_length-returns t c =
    rw (found_at (λ t. der t (value_view c.args.value.now)) (λ cs i. alternative_octets cs i (value_view c.args.value.now)) (λ name t p rest. refl) (λ name t p rest i. refl) c.args.alternatives.now c.args.at c.index-alternatives-at.result c.if-at-alternatives.false) c.encoded_length.ensures

-- ---- contents

pub contents_length-parts_length-requires : goal.contents_length-parts_length-requires
contents_length-parts_length-requires t c =
    (search (rules, the_lemmas), rw (c.deref-in-Sequence-Fields.ensures.value, c.deref-in-Sequence-Fields-2.ensures.value) (sequence_fits c.args.kind.now c.args.value.now c.in-Sequence-Fields.comps c.in-Sequence-Fields.fields c.in-Sequence-Fields.is-0 c.in-Sequence-Fields.is-1 c.requires))

pub contents_length-parts_length-requires-in-Set-Fields : goal.contents_length-parts_length-requires-in-Set-Fields
contents_length-parts_length-requires-in-Set-Fields t c =
    (search (rules, the_lemmas), rw (c.deref-in-Set-Fields.ensures.value, c.deref-in-Set-Fields-2.ensures.value) (set_fits c.args.kind.now c.args.value.now c.in-Set-Fields.comps c.in-Set-Fields.fields c.in-Set-Fields.is-0 c.in-Set-Fields.is-1 c.requires))

pub contents_length-returns-in-Sequence-Fields : goal.contents_length-returns-in-Sequence-Fields
contents_length-returns-in-Sequence-Fields t c =
    rw (sequence_contents c.args.kind.now c.args.value.now c.in-Sequence-Fields.comps c.in-Sequence-Fields.fields c.in-Sequence-Fields.is-0 c.in-Sequence-Fields.is-1) (rw (c.deref-in-Sequence-Fields.ensures.value, c.deref-in-Sequence-Fields-2.ensures.value) at c.parts_length.ensures)

pub contents_length-returns-in-Set-Fields : goal.contents_length-returns-in-Set-Fields
contents_length-returns-in-Set-Fields t c =
    let counted = rw (c.deref-in-Set-Fields.ensures.value, c.deref-in-Set-Fields-2.ensures.value) at c.parts_length-in-Set-Fields.ensures in
    let parts = parts_of (components_of (map component_view c.in-Set-Fields.comps.items)) (fields_view (arc_slice_items c.in-Set-Fields.fields)) in
    counted ∙ sym (ap short_length (set_contents c.args.kind.now c.args.value.now c.in-Set-Fields.comps c.in-Set-Fields.fields c.in-Set-Fields.is-0 c.in-Set-Fields.is-1) ∙ set_short parts)

pub contents_length-returns-in-SequenceOf-Items : goal.contents_length-returns-in-SequenceOf-Items
contents_length-returns-in-SequenceOf-Items t c =
    rw (sequence_of_contents c.args.kind.now c.args.value.now c.in-SequenceOf-Items.element c.in-SequenceOf-Items.items c.in-SequenceOf-Items.is-0 c.in-SequenceOf-Items.is-1) (rw (c.deref-in-SequenceOf-Items.ensures, c.deref-in-SequenceOf-Items-2.ensures.value) at c.elements_length.ensures)

-- ---- components

pub parts_length-returns-then-comps-fields : goal.parts_length-returns-then-comps-fields
parts_length-returns-then-comps-fields t c =
    sym (ap (λ (ps : Option (List Part)). short_length (sequence_octets ps)) (uneven_parts c.args.comps.now c.args.fields.now (λ e. c.if-comps-fields.true e)))

pub parts_length-loop-index-init : goal.parts_length-loop-index-init
parts_length-loop-index-init t c = record {
  so_far = after_none (sequence_octets (others c.args.comps.now c.args.fields.now 0));
  fit = c.requires;
  low = omega arith;
}

pub parts_length-loop-index-preserved : goal.parts_length-loop-index-preserved
parts_length-loop-index-preserved t c = record {
  so_far = parts_on c.args.comps.now c.args.fields.now c.loop-index.index c.index-comps-index.result c.index-fields-index.result c.loop-index.so_far c.in_ok-more.more c.in_ok-so_far.so_far _ c.loop-index-test.true (omega (arith, c.if-comps-fields.false)) c.index-comps-index.is c.index-fields-index.is (sym (rw c.deref.ensures at c.part_length.ensures) ∙ c.in_ok-more.was) (sym c.sum_within.ensures.value ∙ c.in_ok-so_far.was) c.loop-index.invariant.so_far;
  fit = (next_fits c.args.comps.now c.args.fields.now c.loop-index.index c.index-comps-index.result c.index-fields-index.result c.loop-index-test.true (omega (arith, c.if-comps-fields.false)) c.index-comps-index.is c.index-fields-index.is c.loop-index.invariant.fit).1;
  low = c.in_ok-so_far.ensures.bound;
}

pub parts_length-returns-in_err-more : goal.parts_length-returns-in_err-more
parts_length-returns-in_err-more t c =
    c.from_residual.ensures
    ∙ part_long c.args.comps.now c.args.fields.now c.loop-index.index c.index-comps-index.result c.index-fields-index.result c.loop-index.so_far _ c.loop-index-test.true (omega (arith, c.if-comps-fields.false)) c.index-comps-index.is c.index-fields-index.is (sym (rw c.deref.ensures at c.part_length.ensures) ∙ c.in_err-more.was) c.loop-index.invariant.so_far

pub parts_length-returns-in_err-so_far : goal.parts_length-returns-in_err-so_far
parts_length-returns-in_err-so_far t c =
    c.from_residual-in_err-so_far.ensures
    ∙ sum_long c.args.comps.now c.args.fields.now c.loop-index.index c.index-comps-index.result c.index-fields-index.result c.loop-index.so_far c.in_ok-more.more _ c.loop-index-test.true (omega (arith, c.if-comps-fields.false)) c.index-comps-index.is c.index-fields-index.is (sym (rw c.deref.ensures at c.part_length.ensures) ∙ c.in_ok-more.was) (sym c.sum_within.ensures.value ∙ c.in_err-so_far.was) c.loop-index.invariant.so_far
