use Rattle.guard_streams.proofs.Chains.{eight}
use Rattle.guard_streams.proofs.Doings.{told_ok}
use Rattle.guard_streams.proofs.counters_text.add_labelled.Goals as goal

pub returns : goal.returns
returns c =
    told_ok c.add-7.result c.add-7.ensures (λ last.
    eight _ _ _ _ _ _ _ _ _ _ _ _ _ _ _ _ _ c.in_ok-add.ensures c.in_ok-add-2.ensures c.in_ok-add-3.ensures c.in_ok-add-4.ensures c.in_ok-add-5.ensures c.in_ok-add-6.ensures c.in_ok-add_number.ensures last)
