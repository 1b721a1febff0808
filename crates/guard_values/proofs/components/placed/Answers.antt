use Rattle.std.proofs.Common.{option_map, sym, ap, ◌∙◌}
use Rattle.guard_model.specs.ValueView.{fields_view}
use Rattle.guard_values.specs.Views.{located_view}
use Rattle.guard_values.proofs.Braces.ComponentsByName.{place_taken, place_late, place_found}
use Rattle.guard_der.proofs.Functions.SetFields.{field_is_filled}
use Rattle.guard_values.proofs.components.placed.Goals as goal

pub returns-then-is_some-clause-given : goal.returns-then-is_some-clause-given
returns-then-is_some-clause-given c =
    place_taken c.args.ordered c.args.next (fields_view c.args.fields.now) c.args.site (option_map located_view c.args.found) (located_view (c.in-Some.place, c.in-Some.ty)) (ap (option_map located_view) c.in-Some.is)
    (field_is_filled c.args.fields.now c.in-Some.place c.index-fields-place.result (rw c.in-Some.is at c.requires) c.index-fields-place.is ∙ sym (rw c.deref.ensures at c.is_some.ensures) ∙ c.if-is_some.true)

pub returns-then-is_late-clause-given : goal.returns-then-is_late-clause-given
returns-then-is_late-clause-given c =
    place_late c.args.ordered c.args.next (fields_view c.args.fields.now) c.args.site (option_map located_view c.args.found) (located_view (c.in-Some.place, c.in-Some.ty)) (ap (option_map located_view) c.in-Some.is)
    (field_is_filled c.args.fields.now c.in-Some.place c.index-fields-place.result (rw c.in-Some.is at c.requires) c.index-fields-place.is ∙ sym (rw c.deref.ensures at c.is_some.ensures) ∙ c.if-is_some.false)
    (sym c.is_late.ensures ∙ c.if-is_late.true)

pub returns-clause-given : goal.returns-clause-given
returns-clause-given c =
    place_found c.args.ordered c.args.next (fields_view c.args.fields.now) c.args.site (option_map located_view c.args.found) (located_view (c.in-Some.place, c.in-Some.ty)) (ap (option_map located_view) c.in-Some.is)
    (field_is_filled c.args.fields.now c.in-Some.place c.index-fields-place.result (rw c.in-Some.is at c.requires) c.index-fields-place.is ∙ sym (rw c.deref.ensures at c.is_some.ensures) ∙ c.if-is_some.false)
    (sym c.is_late.ensures ∙ c.if-is_late.false)
