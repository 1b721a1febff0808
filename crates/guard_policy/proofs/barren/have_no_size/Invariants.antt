use Rattle.std.proofs.Common.{◌≡◌, ℤ, ◌&&◌, drop}
use Rattle.std.specs.List.{list_all}
use Rattle.guard_integers.specs.Integers.{holds}
use Rattle.guard_policy.specs.Barren.{demand_may_have_size, is_size}
use Rattle.guard_policy.specs.inside.Asked.{demands_view}
use Rattle.guard_policy.proofs.barren.have_no_size.Given as goal

-- with what those that are left may have it is what all may have
abbrev pub invariant-loop-demand : goal.invariant-loop-demand
invariant-loop-demand l =
    (z : ℤ) → (holds l.left z && list_all (demand_may_have_size z) (demands_view (drop l.demand-index l.demands))) ≡ (is_size z && list_all (demand_may_have_size z) (demands_view l.demands))
