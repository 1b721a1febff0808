use Rattle.guard_streams.proofs.Chains.{five}
use Rattle.guard_streams.proofs.Doings.{told_ok}
use Rattle.guard_streams.proofs.counters_text.add_faults.Goals as goal

pub returns : goal.returns
returns c =
    told_ok c.add_fault-4.result c.add_fault-4.ensures (λ last.
    five _ _ _ _ _ _ _ _ _ _ _ c.in_ok-add_heading.ensures c.in_ok-add_fault.ensures c.in_ok-add_fault-2.ensures c.in_ok-add_fault-3.ensures last)
