use Rattle.std.proofs.Common.{refl, sym, arith}
use Rattle.guard_model.specs.TypeView.{type_view}
use Rattle.guard_model.specs.ValueView.{value_view}
use Rattle.guard_der.specs.Fits.{fits, fits_alternative}
use Rattle.guard_der.proofs.Functions.Places.{found_at, none_at}
use Rattle.guard_der.proofs.Functions.Fitting.{fit_on, fit_stop, uneven_fields, fields_fit_is, set_fields_fit_is, items_fit_is, set_items_fit_is, too_many, few_enough}
use Rattle.guard_der.proofs.fitting.+fitting.Goals as goal

pub alternative_fits-returns-then-at-alternatives : goal.alternative_fits-returns-then-at-alternatives
alternative_fits-returns-then-at-alternatives t c =
    sym (none_at _ (λ cs i. fits_alternative cs i (value_view c.args.value.now)) (λ i. refl) (λ name t p rest i. refl) c.args.alternatives.now c.args.at c.if-at-alternatives.true)

pub alternative_fits-returns : goal.alternative_fits-returns
alternative_fits-returns t c =
    rw (found_at (λ t. fits t (value_view c.args.value.now)) (λ cs i. fits_alternative cs i (value_view c.args.value.now)) (λ name t p rest. refl) (λ name t p rest i. refl) c.args.alternatives.now c.args.at c.index-alternatives-at.result c.if-at-alternatives.false) c.fits.ensures.exact

-- ---- components

pub fields_fit-returns-then-comps-fields : goal.fields_fit-returns-then-comps-fields
fields_fit-returns-then-comps-fields t c = uneven_fields c.args.comps.now c.args.fields.now (λ e. c.if-comps-fields.true e)

pub fields_fit-returns-then-not-branch : goal.fields_fit-returns-then-not-branch
fields_fit-returns-then-not-branch t c =
    fit_stop c.args.comps.now c.args.fields.now c.loop-index.index c.index-comps-index.result c.index-fields-index.result c.in_ok-field_fits.field-0 _ c.loop-index-test.true (omega (arith, c.if-comps-fields.false)) c.index-comps-index.is c.index-fields-index.is (rw c.deref.ensures at c.in_ok-field_fits.ensures) c.if-not-branch.true c.loop-index.invariant

pub fields_fit-loop-index-preserved : goal.fields_fit-loop-index-preserved
fields_fit-loop-index-preserved t c =
    fit_on c.args.comps.now c.args.fields.now c.loop-index.index c.index-comps-index.result c.index-fields-index.result c.in_ok-field_fits.field-0 _ c.loop-index-test.true (omega (arith, c.if-comps-fields.false)) c.index-comps-index.is c.index-fields-index.is (rw c.deref.ensures at c.in_ok-field_fits.ensures) c.if-not-branch.false c.loop-index.invariant

-- ---- elements

pub items_fit-returns-then-items-gt-MOST_ITEMS : goal.items_fit-returns-then-items-gt-MOST_ITEMS
items_fit-returns-then-items-gt-MOST_ITEMS t c = too_many (fits (type_view c.args.ty.now)) c.args.items.now c.if-items-gt-MOST_ITEMS.true

pub items_fit-returns : goal.items_fit-returns
items_fit-returns t c = rw (sym (few_enough (fits (type_view c.args.ty.now)) c.args.items.now c.if-items-gt-MOST_ITEMS.false)) c.all_fit.ensures

-- ---- kinds

pub kind_fits-returns-in-Sequence-Fields : goal.kind_fits-returns-in-Sequence-Fields
kind_fits-returns-in-Sequence-Fields t c =
    rw (fields_fit_is c.args.kind.now c.args.value.now c.in-Sequence-Fields.comps c.in-Sequence-Fields.fields c.in-Sequence-Fields.is-0 c.in-Sequence-Fields.is-1) (rw (c.deref-in-Sequence-Fields.ensures.value, c.deref-in-Sequence-Fields-2.ensures.value) at c.fields_fit.ensures)

pub kind_fits-returns-in-Set-Fields : goal.kind_fits-returns-in-Set-Fields
kind_fits-returns-in-Set-Fields t c =
    rw (set_fields_fit_is c.args.kind.now c.args.value.now c.in-Set-Fields.comps c.in-Set-Fields.fields c.in-Set-Fields.is-0 c.in-Set-Fields.is-1) (rw (c.deref-in-Set-Fields.ensures.value, c.deref-in-Set-Fields-2.ensures.value) at c.fields_fit-in-Set-Fields.ensures)

pub kind_fits-returns-in-SequenceOf-Items : goal.kind_fits-returns-in-SequenceOf-Items
kind_fits-returns-in-SequenceOf-Items t c =
    rw (items_fit_is c.args.kind.now c.args.value.now c.in-SequenceOf-Items.element c.in-SequenceOf-Items.items c.in-SequenceOf-Items.is-0 c.in-SequenceOf-Items.is-1) (rw (c.deref-in-SequenceOf-Items.ensures, c.deref-in-SequenceOf-Items-2.ensures.value) at c.items_fit.ensures)

pub kind_fits-returns-in-SetOf-Items : goal.kind_fits-returns-in-SetOf-Items
kind_fits-returns-in-SetOf-Items t c =
    rw (set_items_fit_is c.args.kind.now c.args.value.now c.in-SetOf-Items.element c.in-SetOf-Items.items c.in-SetOf-Items.is-0 c.in-SetOf-Items.is-1) (rw (c.deref-in-SetOf-Items.ensures, c.deref-in-SetOf-Items-2.ensures.value) at c.set_fits.ensures)
