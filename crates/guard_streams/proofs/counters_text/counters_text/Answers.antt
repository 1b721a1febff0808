use Rattle.guard_streams.proofs.Chains.{six_new}
use Rattle.guard_streams.proofs.counters_text.counters_text.Goals as goal

pub returns : goal.returns
returns c =
    six_new _ _ _ _ _ _ _ _ _ _ _ _ _ c.new-text.ensures.items c.in_ok-add_totals.ensures c.in_ok-add_stopped.ensures
    (rw c.deref.ensures.value at c.in_ok-add_rules.ensures) (rw c.deref-2.ensures.value at c.in_ok-add_rules-2.ensures)
    c.in_ok-add_traffic.ensures c.in_ok-add_policy.ensures
