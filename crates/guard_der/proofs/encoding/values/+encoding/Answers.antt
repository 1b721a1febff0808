use Rattle.std.proofs.Common.{rules, ℕ, List, map, Some, Ok, refl, sym, ap, ◌∙◌, arith}
use Rattle.std.proofs.lemmas.Result.{err_from_is_err_and}
use Rattle.guard_model.specs.declared.ty.Kind.{the_lemmas}
use Rattle.guard_model.specs.TypeView.{component_view, components_of}
use Rattle.guard_model.specs.ValueView.{value_view, fields_view}
use Rattle.guard_der.specs.Der.{Part, der, alternative_octets, parts_of, parts_joined, ascending}
use Rattle.guard_der.specs.Fits.{fits, fits_alternative}
use Rattle.guard_der.specs.declared.encoding.parts.EncodedPart.{EncodedPart}
use Rattle.guard_der.proofs.Functions.Places.{found_at, none_at}
use Rattle.guard_der.proofs.Functions.Encoding.{refused_whole, there_whole, sequence_fits, set_fits, sequence_contents, set_contents, sequence_of_contents, set_of_contents, others, next_fits, parts_on, parts_stop, parts_begin, parts_end, uneven_parts}
use Rattle.guard_der.proofs.encoding.values.+encoding.Goals as goal
use Rattle.guard_der.specs.Encoding.{or_too_long}
use Rattle.guard_der.specs.inside.EncodingSteps.{parts_view}

-- ---- alternative

pub alternative-returns-then-at-alternatives : goal.alternative-returns-then-at-alternatives
alternative-returns-then-at-alternatives t c =
    ap or_too_long (none_at _ (λ cs i. alternative_octets cs i (value_view c.args.value.now)) (λ i. refl) (λ name t p rest i. refl) c.args.alternatives.now c.args.at c.if-at-alternatives.true)

pub alternative-encoding-requires : goal.alternative-encoding-requires
alternative-encoding-requires t c =
    (search (rules, the_lemmas), sym (found_at (λ t. fits t (value_view c.args.value.now)) (λ cs i. fits_alternative cs i (value_view c.args.value.now)) (λ name t p rest. refl) (λ name t p rest i. refl) c.args.alternatives.now c.args.at c.index-alternatives-at.result c.if-at-alternatives.false) ∙ c.requires)

pub alternative-returns : goal.alternative-returns
alternative-returns t c =
    rw (found_at (λ t. der t (value_view c.args.value.now)) (λ cs i. alternative_octets cs i (value_view c.args.value.now)) (λ name t p rest. refl) (λ name t p rest i. refl) c.args.alternatives.now c.args.at c.index-alternatives-at.result c.if-at-alternatives.false) c.encoding.ensures

-- ---- contents

pub contents-sequence-requires : goal.contents-sequence-requires
contents-sequence-requires t c =
    (search (rules, the_lemmas), rw (c.deref-in-Sequence-Fields.ensures.value, c.deref-in-Sequence-Fields-2.ensures.value) (sequence_fits c.args.kind.now c.args.value.now c.in-Sequence-Fields.comps c.in-Sequence-Fields.fields c.in-Sequence-Fields.is-0 c.in-Sequence-Fields.is-1 c.requires))

pub contents-set-requires : goal.contents-set-requires
contents-set-requires t c =
    (search (rules, the_lemmas), rw (c.deref-in-Set-Fields.ensures.value, c.deref-in-Set-Fields-2.ensures.value) (set_fits c.args.kind.now c.args.value.now c.in-Set-Fields.comps c.in-Set-Fields.fields c.in-Set-Fields.is-0 c.in-Set-Fields.is-1 c.requires))

pub contents-returns-in-Sequence-Fields : goal.contents-returns-in-Sequence-Fields
contents-returns-in-Sequence-Fields t c =
    rw (sequence_contents c.args.kind.now c.args.value.now c.in-Sequence-Fields.comps c.in-Sequence-Fields.fields c.in-Sequence-Fields.is-0 c.in-Sequence-Fields.is-1) (rw (c.deref-in-Sequence-Fields.ensures.value, c.deref-in-Sequence-Fields-2.ensures.value) at c.sequence.ensures)

pub contents-returns-in-Set-Fields : goal.contents-returns-in-Set-Fields
contents-returns-in-Set-Fields t c =
    rw (set_contents c.args.kind.now c.args.value.now c.in-Set-Fields.comps c.in-Set-Fields.fields c.in-Set-Fields.is-0 c.in-Set-Fields.is-1) (rw (c.deref-in-Set-Fields.ensures.value, c.deref-in-Set-Fields-2.ensures.value) at c.set.ensures)

pub contents-returns-in-SequenceOf-Items : goal.contents-returns-in-SequenceOf-Items
contents-returns-in-SequenceOf-Items t c =
    rw (sequence_of_contents c.args.kind.now c.args.value.now c.in-SequenceOf-Items.element c.in-SequenceOf-Items.items c.in-SequenceOf-Items.is-0 c.in-SequenceOf-Items.is-1) (rw (c.deref-in-SequenceOf-Items.ensures, c.deref-in-SequenceOf-Items-2.ensures.value) at c.elements.ensures)

pub contents-returns-in-SetOf-Items : goal.contents-returns-in-SetOf-Items
contents-returns-in-SetOf-Items t c =
    rw (set_of_contents c.args.kind.now c.args.value.now c.in-SetOf-Items.element c.in-SetOf-Items.items c.in-SetOf-Items.is-0 c.in-SetOf-Items.is-1) (rw (c.deref-in-SetOf-Items.ensures, c.deref-in-SetOf-Items-2.ensures.value) at c.elements-in-SetOf-Items.ensures)

-- ---- parts

pub parts-returns-then-comps-fields : goal.parts-returns-then-comps-fields
parts-returns-then-comps-fields t c = ap or_too_long (uneven_parts c.args.comps.now c.args.fields.now (λ e. c.if-comps-fields.true e))

pub parts-push_part-requires : goal.parts-push_part-requires
parts-push_part-requires t c =
    (search (rules, the_lemmas), rw c.deref.ensures (next_fits c.args.comps.now c.args.fields.now c.loop-index.index c.index-comps-index.result c.index-fields-index.result c.loop-index-test.true (omega (arith, c.if-comps-fields.false)) c.index-comps-index.is c.index-fields-index.is c.loop-index.invariant.fit).0)

pub parts-loop-index-init : goal.parts-loop-index-init
parts-loop-index-init t c = record {
  so_far = rw c.in_ok-parts.ensures.items (parts_begin (others c.args.comps.now c.args.fields.now 0));
  fit = c.requires;
}

pub parts-loop-index-preserved : goal.parts-loop-index-preserved
parts-loop-index-preserved t c = record {
  so_far = parts_on c.args.comps.now c.args.fields.now c.loop-index.index c.index-comps-index.result c.index-fields-index.result (parts_view c.loop-index.parts.items) (parts_view c.push_part.new.parts.items) _ c.loop-index-test.true (omega (arith, c.if-comps-fields.false)) c.index-comps-index.is c.index-fields-index.is (rw c.deref.ensures at c.in_ok-push_part.ensures) c.loop-index.invariant.so_far;
  fit = (next_fits c.args.comps.now c.args.fields.now c.loop-index.index c.index-comps-index.result c.index-fields-index.result c.loop-index-test.true (omega (arith, c.if-comps-fields.false)) c.index-comps-index.is c.index-fields-index.is c.loop-index.invariant.fit).1;
}

pub parts-returns-in_err-push_part : goal.parts-returns-in_err-push_part
parts-returns-in_err-push_part t c =
    let p = err_from_is_err_and c.from_residual-in_err-push_part.result c.from_residual-in_err-push_part.ensures.1 in
    rw (p.1, p.2) (parts_stop c.args.comps.now c.args.fields.now c.loop-index.index c.index-comps-index.result c.index-fields-index.result (parts_view c.loop-index.parts.items) _ c.in_err-push_part.field-0.0 c.loop-index-test.true (omega (arith, c.if-comps-fields.false)) c.index-comps-index.is c.index-fields-index.is (rw c.deref.ensures at c.in_err-push_part.ensures) c.loop-index.invariant.so_far)

pub parts-returns : goal.parts-returns
parts-returns t c = parts_end c.args.comps.now c.args.fields.now c.loop-index.index (parts_view c.loop-index.parts.items) _ c.loop-index-test.false (omega (arith, c.if-comps-fields.false, c.loop-index-test.false)) c.loop-index.invariant.so_far

-- ---- sequence and set

pub sequence-returns-in_err-parts : goal.sequence-returns-in_err-parts
sequence-returns-in_err-parts t c =
    let p = err_from_is_err_and c.from_residual.result c.from_residual.ensures.1 in
    rw (p.1, p.2) (refused_whole c.in_err-parts.field-0.0 (parts_of (components_of (map component_view c.args.comps.now)) (fields_view c.args.fields.now)) (λ ps. Some (parts_joined ps)) c.in_err-parts.ensures)

pub sequence-returns : goal.sequence-returns
sequence-returns t c =
    ap or_too_long (there_whole (parts_of (components_of (map component_view c.args.comps.now)) (fields_view c.args.fields.now)) (parts_view c.in_ok-parts.parts.items) (λ ps. Some (parts_joined ps)) c.in_ok-parts.ensures)
    ∙ ap (λ (os : List ℕ). Ok os) (ap (λ (xs : List EncodedPart). parts_joined (parts_view xs)) (sym c.deref.ensures.value) ∙ sym c.in_ok-joined.ensures)

pub set-returns-in_err-parts : goal.set-returns-in_err-parts
set-returns-in_err-parts t c =
    let p = err_from_is_err_and c.from_residual.result c.from_residual.ensures.1 in
    rw (p.1, p.2) (refused_whole c.in_err-parts.field-0.0 (parts_of (components_of (map component_view c.args.comps.now)) (fields_view c.args.fields.now)) (λ ps. Some (parts_joined (ascending ps))) c.in_err-parts.ensures)

pub set-returns : goal.set-returns
set-returns t c =
    ap or_too_long (there_whole (parts_of (components_of (map component_view c.args.comps.now)) (fields_view c.args.fields.now)) (parts_view c.in_ok-parts.parts.items) (λ ps. Some (parts_joined (ascending ps))) c.in_ok-parts.ensures)
    ∙ ap (λ (os : List ℕ). Ok os) (ap (λ (ps : List Part). parts_joined ps) (sym c.in_ok-sorted.ensures) ∙ ap (λ (xs : List EncodedPart). parts_joined (parts_view xs)) (sym c.deref.ensures.value) ∙ sym c.in_ok-joined.ensures)
