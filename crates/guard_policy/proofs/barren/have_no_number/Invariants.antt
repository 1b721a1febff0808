use Rattle.std.proofs.Common.{◌≡◌, ℤ, ◌&&◌, drop}
use Rattle.guard_integers.specs.Integers.{holds}
use Rattle.guard_model.specs.Limits.{fits_128_bits}
use Rattle.guard_policy.specs.Barren.{all_have_number}
use Rattle.guard_policy.specs.inside.Asked.{demands_view}
use Rattle.guard_policy.proofs.barren.have_no_number.Given as goal

-- with what meets those that are left it is what meets all
abbrev pub invariant-loop-demand : goal.invariant-loop-demand
invariant-loop-demand l =
    (z : ℤ) → (holds l.left z && all_have_number (demands_view (drop l.demand-index l.demands)) z) ≡ (fits_128_bits z && all_have_number (demands_view l.demands) z)
