use Rattle.guard_streams.proofs.Chains.{four}
use Rattle.guard_streams.proofs.Doings.{told_ok}
use Rattle.guard_streams.proofs.counters_text.add_sample.Goals as goal

pub returns : goal.returns
returns c =
    told_ok c.add-3.result c.add-3.ensures (λ last.
    four _ _ _ _ _ _ _ _ _ c.in_ok-add.ensures c.in_ok-add-2.ensures c.in_ok-add_number.ensures last)
