use Rattle.guard_streams.proofs.Chains.{four}
use Rattle.guard_streams.proofs.Doings.{told_ok}
use Rattle.guard_streams.proofs.counters_text.add_traffic.Goals as goal

pub returns : goal.returns
returns c =
    told_ok c.add_faults.result c.add_faults.ensures (λ last.
    four _ _ _ _ _ _ _ _ _ c.in_ok-add_counter.ensures c.in_ok-add_counter-2.ensures c.in_ok-add_counter-3.ensures last)
