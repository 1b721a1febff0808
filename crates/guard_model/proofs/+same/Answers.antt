use Rattle.std.proofs.Common.{◌∙◌}
use Rattle.std.proofs.lemmas.Str.{IsUtf8-string_bytes}
use Rattle.guard_model.proofs.Sameness.{fields_apart, items_apart, same_characters}
use Rattle.guard_model.proofs.ValueViews.{value_view_fields, value_view_characters}
use Rattle.guard_model.proofs.+same.Goals as goal

pub same::are_same_fields-returns-then-fields-others : goal.same::are_same_fields-returns-then-fields-others
same::are_same_fields-returns-then-fields-others t c = fields_apart c.args.fields.now c.args.others.now (λ e. c.if-fields-others.true e)

pub same::are_same_items-returns-then-items-others : goal.same::are_same_items-returns-then-items-others
same::are_same_items-returns-then-items-others t c = items_apart c.args.items.now c.args.others.now (λ e. c.if-items-others.true e)

pub value::Value::equals-returns-in-Chars-Chars : goal.value::Value::equals-returns-in-Chars-Chars
value::Value::equals-returns-in-Chars-Chars t c =
    rw (c.in-Chars-Chars.is-0, c.in-Chars-Chars.is-1) (rw (value_view_characters c.in-Chars-Chars.one, value_view_characters c.in-Chars-Chars.two) (c.eq-in-Chars-Chars.ensures ∙ same_characters _ _ (IsUtf8-string_bytes c.in-Chars-Chars.one.text.value) (IsUtf8-string_bytes c.in-Chars-Chars.two.text.value)))

pub value::Value::equals-returns-in-Fields-Fields : goal.value::Value::equals-returns-in-Fields-Fields
value::Value::equals-returns-in-Fields-Fields t c =
    rw (c.in-Fields-Fields.is-0, c.in-Fields-Fields.is-1) (rw (value_view_fields c.in-Fields-Fields.one, value_view_fields c.in-Fields-Fields.two) (rw (c.deref.ensures.value, c.deref-in-Fields-Fields.ensures.value) at c.are_same_fields.ensures))
