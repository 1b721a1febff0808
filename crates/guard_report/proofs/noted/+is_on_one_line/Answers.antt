use Rattle.guard_model.proofs.ValueViews.{value_view_fields}
use Rattle.guard_report.proofs.noted.+is_on_one_line.Goals as goal

pub returns-in-Fields : goal.returns-in-Fields
returns-in-Fields t c = rw (c.in-Fields.is, value_view_fields c.in-Fields.fields) (rw c.deref.ensures.value at c.are_all_absent.ensures)
