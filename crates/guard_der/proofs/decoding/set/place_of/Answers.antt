use Rattle.std.proofs.Common.{◌∙◌, sym, ap, arith}
use Rattle.std.specs.Prelude.{option_map}
use Rattle.guard_model.specs.declared.site.Step.TheVariants.{Component}
use Rattle.guard_model.specs.ValueView.{fields_view}
use Rattle.guard_der.specs.Breach.{below}
use Rattle.guard_der.proofs.Sets.OneElement.{place_free, place_unknown, place_descends, place_full}
use Rattle.guard_der.proofs.Functions.SetFields.{field_is_filled}
use Rattle.guard_der.proofs.decoding.set.place_of.Goals as goal
use Rattle.guard_model.proofs.Components.{in_view}

pub returns-in_default-clause-given : goal.returns-in_default-clause-given
returns-in_default-clause-given c =
    rw c.fault_at.ensures (place_unknown (in_view c.args.comps.now) (fields_view c.args.fields.now) c.args.before c.args.at c.args.tag (sym c.one_with.ensures.place ∙ c.in_default.is))

pub returns-then-not-follows-clause-given : goal.returns-then-not-follows-clause-given
returns-then-not-follows-clause-given c =
    let named = c.below.ensures ∙ ap (option_map (below (Component c.in-Some.place))) c.fault_at-then-not-follows.ensures in
    rw named (place_descends (in_view c.args.comps.now) (fields_view c.args.fields.now) c.args.before c.args.at c.args.tag c.in-Some.place (sym c.in-Some.ensures.place) (sym c.follows.ensures ∙ c.if-not-follows.true))

pub returns-then-is_some-clause-given : goal.returns-then-is_some-clause-given
returns-then-is_some-clause-given c =
    rw c.fault_at-then-is_some.ensures
    (place_full (in_view c.args.comps.now) (fields_view c.args.fields.now) c.args.before c.args.at c.args.tag c.in-Some.place (sym c.in-Some.ensures.place) (sym c.follows.ensures ∙ c.if-not-follows.false)
    (field_is_filled c.args.fields.now c.in-Some.place c.index-fields-place.result (omega (arith, c.requires.fields, c.in-Some.ensures.within)) c.index-fields-place.is ∙ sym (rw c.deref.ensures at c.is_some.ensures) ∙ c.if-is_some.true))

pub returns-clause-given : goal.returns-clause-given
returns-clause-given c =
    place_free (in_view c.args.comps.now) (fields_view c.args.fields.now) c.args.before c.args.at c.args.tag c.in-Some.place (sym c.in-Some.ensures.place) (sym c.follows.ensures ∙ c.if-not-follows.false)
    (field_is_filled c.args.fields.now c.in-Some.place c.index-fields-place.result (omega (arith, c.requires.fields, c.in-Some.ensures.within)) c.index-fields-place.is ∙ sym (rw c.deref.ensures at c.is_some.ensures) ∙ c.if-is_some.false)
