use Rattle.guard_streams.proofs.Chains.{nine}
use Rattle.guard_streams.proofs.Doings.{told_ok}
use Rattle.guard_streams.proofs.counters_text.add_stopped.Goals as goal

pub returns : goal.returns
returns c =
    told_ok c.add_reason-8.result c.add_reason-8.ensures (λ last.
    nine _ _ _ _ _ _ _ _ _ _ _ _ _ _ _ _ _ _ _ c.in_ok-add_heading.ensures c.in_ok-add_reason.ensures c.in_ok-add_reason-2.ensures c.in_ok-add_reason-3.ensures c.in_ok-add_reason-4.ensures c.in_ok-add_reason-5.ensures c.in_ok-add_reason-6.ensures c.in_ok-add_reason-7.ensures last)
