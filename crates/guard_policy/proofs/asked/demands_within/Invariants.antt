use Rattle.std.proofs.Common.{◌≡◌, ◌++◌, drop}
use Rattle.guard_policy.specs.Barren.{demands_within}
use Rattle.guard_policy.specs.inside.Asked.{demands_view}
use Rattle.guard_policy.proofs.asked.demands_within.Given as goal

-- with what those that are left ask it is what all ask
abbrev pub invariant-loop-demand : goal.invariant-loop-demand
invariant-loop-demand l = demands_view l.inner.items ++ demands_within l.place (demands_view (drop l.demand-index l.demands)) ≡ demands_within l.place (demands_view l.demands)
