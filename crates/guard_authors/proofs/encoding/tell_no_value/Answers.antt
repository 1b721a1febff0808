use Rattle.guard_authors.proofs.WrittenValues.{told_with_place}
use Rattle.guard_authors.proofs.encoding.tell_no_value.Goals as goal

pub returns-in_default-fault : goal.returns-in_default-fault
returns-in_default-fault g c =
    told_with_place _ _ _ _ c.in_default-fault.not-OutOfMemory (rw (c.deref.ensures, c.in-Ok.ensures) at c.tell_with.ensures)
