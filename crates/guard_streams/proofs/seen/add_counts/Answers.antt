use Rattle.guard_streams.proofs.Chains.{eight}
use Rattle.guard_streams.proofs.Doings.{told_ok}
use Rattle.guard_streams.proofs.seen.add_counts.Goals as goal

pub returns : goal.returns
returns c =
    told_ok c.add_count-8.result c.add_count-8.ensures (λ last.
    eight _ _ _ _ _ _ _ _ _ _ _ _ _ _ _ _ _ c.in_ok-add_count.ensures c.in_ok-add_count-2.ensures c.in_ok-add_count-3.ensures c.in_ok-add_count-4.ensures c.in_ok-add_count-5.ensures c.in_ok-add_count-6.ensures c.in_ok-add_count-7.ensures last)
