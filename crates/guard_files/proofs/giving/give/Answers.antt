use Rattle.std.proofs.Common.{refl}
use Rattle.guard_files.proofs.giving.give.Goals as goal

pub returns-in-Err-clause-told : goal.returns-in-Err-clause-told
returns-in-Err-clause-told g c = rw c.in-Err.is (refl, rw c.deref-in-Err.ensures at c.tell_with.ensures)
