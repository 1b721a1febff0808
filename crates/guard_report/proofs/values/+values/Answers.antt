use Rattle.guard_model.proofs.ValueViews.{value_view_fields}
use Rattle.guard_report.proofs.values.+values.Goals as goal

pub add_value-returns-in-Fields : goal.add_value-returns-in-Fields
add_value-returns-in-Fields t c = rw (c.in-Fields.is, value_view_fields c.in-Fields.fields) (rw c.deref-in-Fields.ensures.value at c.add_fields.ensures)
