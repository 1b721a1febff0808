use Rattle.guard_streams.proofs.Between.{may_show}
use Rattle.guard_streams.proofs.counters.Counters.waits.Goals as goal

pub returns-then-is_due : goal.returns-then-is_due
returns-then-is_due g c = may_show _ _ _ _ _ _ c.is_due.ensures c.show_at.ensures
