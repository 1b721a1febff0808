use Rattle.guard_streams.proofs.Chains.{two}
use Rattle.guard_streams.proofs.Doings.{told_ok}
use Rattle.guard_streams.proofs.counters_text.add_counter.Goals as goal

pub returns : goal.returns
returns c =
    told_ok c.add_sample.result c.add_sample.ensures (λ last.
    two _ _ _ _ _ c.in_ok-add_heading.ensures last)
