use Rattle.guard_files.proofs.outputs.tell_failed_write.Goals as goal

pub returns : goal.returns
returns g c = rw c.text.ensures at c.tell_short.ensures
