use Rattle.std.proofs.Common.{◌∙◌}
use Rattle.guard_authors.proofs.testing.test_beside.Goals as goal

pub returns-in-Ok : goal.returns-in-Ok
returns-in-Ok g c = rw (c.deref.ensures ∙ c.in-Ok.ensures) at c.test_file.ensures
