use Rattle.std.proofs.Common.{◌∙◌, inl}
use Rattle.guard_authors.proofs.cases.tell_where_it_breaks.Goals as goal

pub returns-in-Ok : goal.returns-in-Ok
returns-in-Ok g c =
    let h = c.in-Ok.ensures in
    inl (h.0, h.1, rw (c.as_bytes.ensures.value ∙ h.2) at c.tell_line.ensures)
