use Rattle.std.proofs.Common.{inl}
use Rattle.guard_files.specs.Answers.{answer_view}
use Rattle.guard_authors.proofs.testing.test_text.Goals as goal

pub returns-in-Ok : goal.returns-in-Ok
returns-in-Ok g c =
    let t = c.in-Ok.ensures.tested in
    inl (t.0, answer_view c.in-Ok.answer, t.1, t.2, rw c.deref.ensures.value at c.write.ensures)
