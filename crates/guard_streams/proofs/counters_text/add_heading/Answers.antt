use Rattle.guard_streams.proofs.Chains.{nine}
use Rattle.guard_streams.proofs.Doings.{told_ok}
use Rattle.guard_streams.proofs.counters_text.add_heading.Goals as goal

pub returns : goal.returns
returns c =
    told_ok c.add-9.result c.add-9.ensures (λ last.
    nine _ _ _ _ _ _ _ _ _ _ _ _ _ _ _ _ _ _ _ c.in_ok-add.ensures c.in_ok-add-2.ensures c.in_ok-add-3.ensures c.in_ok-add-4.ensures c.in_ok-add-5.ensures c.in_ok-add-6.ensures c.in_ok-add-7.ensures c.in_ok-add-8.ensures last)
