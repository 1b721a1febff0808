use Rattle.std.proofs.Common.{◌∙◌}
use Rattle.guard_authors.proofs.cases.text_at.Goals as goal

pub returns-in-Some : goal.returns-in-Some
returns-in-Some c = c.as_str.ensures ∙ rw (← rw c.in-Some.is at c.value_at.ensures)

pub returns-in-None : goal.returns-in-None
returns-in-None c = rw (← rw c.in-None.is at c.value_at.ensures)
