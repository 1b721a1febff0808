use Rattle.std.proofs.Common.{inr}
use Rattle.guard_files.proofs.outputs.write.Goals as goal

pub returns-in-Err : goal.returns-in-Err
returns-in-Err g c = let part = c.in-Err.ensures.part in inr ((part.0, part.1, part.2, c.in-Err.ensures.failed), c.tell_failed_write.ensures)
