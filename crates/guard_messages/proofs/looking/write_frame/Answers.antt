use Rattle.std.proofs.Common.{inl, inr, refl}
use Rattle.guard_messages.proofs.looking.write_frame.Goals as goal

pub returns-in-Ok : goal.returns-in-Ok
returns-in-Ok g c told =
    let is = rw c.in-Some-Framed.field-0-is at c.in-Some-Framed.ensures in
    rw (← is) (inl (c.in-Ok.frame.items, c.in-Ok.ensures.frame, rw c.deref.ensures.value at c.write.ensures))

pub returns-in-Err : goal.returns-in-Err
returns-in-Err g c told =
    let is = rw c.in-Some-Framed.field-0-is at c.in-Some-Framed.ensures in
    rw (← is) (inr (c.in-Err.reason, c.in-Err.ensures.unfound told, refl, c.tell_unfound.ensures))
