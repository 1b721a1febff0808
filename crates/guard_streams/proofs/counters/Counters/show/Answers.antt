use Rattle.guard_streams.proofs.Between.{shows_yes, shows_no}
use Rattle.guard_streams.proofs.counters.Counters.show.Goals as goal

pub returns-clause-shows : goal.returns-clause-shows
returns-clause-shows g c = record {
  yes = shows_yes _ _ _ c.put-self.result _ _ c.as_deref.ensures.value c.put-self.ensures;
  no = shows_no _ _ c.put-self.result _ _ c.put-self.ensures;
}
