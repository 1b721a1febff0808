use Rattle.std.proofs.Common.{inl, inr, refl}
use Rattle.guard_authors.proofs.encoding.encode_read.Goals as goal

pub returns-in-Ok : goal.returns-in-Ok
returns-in-Ok g c = inl (c.in-Ok.text.items, c.in-Ok.ensures.read, rw c.deref.ensures.value at c.encode_text.ensures)

pub returns-in-Err : goal.returns-in-Err
returns-in-Err g c = inr (c.in-Err.fault, c.in-Err.ensures.lost, refl, c.tell.ensures)
