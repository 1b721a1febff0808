use Rattle.guard_streams.proofs.links_told.tell_stop_with.Goals as goal

pub returns-in-BadRecord-clause-told : goal.returns-in-BadRecord-clause-told
returns-in-BadRecord-clause-told g c = rw c.in-BadRecord.is c.tell_notes.ensures

pub returns-in-ReadFailed-clause-told : goal.returns-in-ReadFailed-clause-told
returns-in-ReadFailed-clause-told g c = rw c.in-ReadFailed.is c.tell_fault.ensures

pub returns-in-WriteFailed-clause-told : goal.returns-in-WriteFailed-clause-told
returns-in-WriteFailed-clause-told g c = rw c.in-WriteFailed.is c.tell_fault-in-WriteFailed.ensures
