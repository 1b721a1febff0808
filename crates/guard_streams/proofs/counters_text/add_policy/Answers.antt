use Rattle.guard_streams.proofs.Chains.{two}
use Rattle.guard_streams.proofs.Doings.{told_ok}
use Rattle.guard_streams.proofs.counters_text.add_policy.Goals as goal

pub returns : goal.returns
returns c =
    told_ok c.add_labelled.result (rw (c.as_slice.ensures, c.digits_of.ensures) at c.add_labelled.ensures) (λ last.
    two _ _ _ _ _ c.in_ok-add_heading.ensures last)
