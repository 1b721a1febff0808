use Rattle.guard_streams.proofs.Chains.{two}
use Rattle.guard_streams.proofs.Doings.{told_ok}
use Rattle.guard_streams.proofs.counters_text.add_totals.Goals as goal

pub returns : goal.returns
returns c =
    told_ok c.add_counter-2.result c.add_counter-2.ensures (λ last.
    two _ _ _ _ _ c.in_ok-add_counter.ensures last)
