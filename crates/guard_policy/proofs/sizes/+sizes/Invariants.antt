use Rattle.std.proofs.Common.{◌≡◌, ℤ, ◌&&◌, ◌||◌, map, drop}
use Rattle.guard_integers.specs.Integers.{holds, some_holds}
use Rattle.guard_model.specs.Limits.{fits_128_bits}
use Rattle.guard_model.specs.TypeView.{constraint_view, constraints_of}
use Rattle.guard_policy.specs.Barren.{all_may_have_size, some_may_have_size}
use Rattle.guard_policy.proofs.sizes.+sizes.Given as goal

-- with the sizes under those that are left it is those under all
abbrev pub invariant-sizes_of_all-loop-constraint : goal.invariant-sizes_of_all-loop-constraint
invariant-sizes_of_all-loop-constraint l =
    (z : ℤ) → (holds l.left z && all_may_have_size (constraints_of (map constraint_view (drop l.constraint-index l.constraints))) z)
    ≡ (fits_128_bits z && all_may_have_size (constraints_of (map constraint_view l.constraints)) z)

abbrev pub invariant-sizes_of_some-loop-constraint : goal.invariant-sizes_of_some-loop-constraint
invariant-sizes_of_some-loop-constraint l =
    (z : ℤ) → (some_holds l.sets.items z || (fits_128_bits z && some_may_have_size (constraints_of (map constraint_view (drop l.constraint-index l.constraints))) z))
    ≡ (fits_128_bits z && some_may_have_size (constraints_of (map constraint_view l.constraints)) z)
