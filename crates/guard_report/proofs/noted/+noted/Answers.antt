use Rattle.guard_model.proofs.ValueViews.{value_view_fields}
use Rattle.guard_report.proofs.noted.+noted.Goals as goal

pub add_value_lines-returns-in-Fields : goal.add_value_lines-returns-in-Fields
add_value_lines-returns-in-Fields t c = rw (c.in-Fields.is, value_view_fields c.in-Fields.fields) (rw c.deref.ensures.value at c.add_field_lines.ensures)
