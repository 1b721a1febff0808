use Rattle.guard_streams.proofs.Between.{counted_shown}
use Rattle.guard_streams.proofs.counters.Counters.show_at.Goals as goal

pub returns : goal.returns
returns g c = rw c.in-Some.is (counted_shown _ _ c.put-self.result _ _ c.put-self.ensures)
