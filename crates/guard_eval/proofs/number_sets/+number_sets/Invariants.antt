use Rattle.std.proofs.Common.{◌≡◌, not, ◌&&◌, ◌||◌, ℤ, map, drop, IsTrue}
use Rattle.guard_integers.specs.Integers.{some_holds}
use Rattle.guard_model.specs.AbstractType.{AbstractKind}
use Rattle.guard_model.specs.Limits.{fits_128_bits}
use Rattle.guard_model.specs.TypeView.{constraint_view, constraints_of}
use Rattle.guard_eval.specs.inside.NumberSets.{is_of, all_allow, some_allow}
use Rattle.guard_eval.proofs.number_sets.+number_sets.Given as goal

-- those that none leaves out so far, and that the constraints to come allow, are those that all allow
abbrev pub invariant-set_of_all-loop-count : goal.invariant-set_of_all-loop-count
invariant-set_of_all-loop-count l =
    (kind : AbstractKind) → IsTrue (is_of l.of kind) → (z : ℤ) → (fits_128_bits z && (not (some_holds l.left_out.items z) && all_allow l.of (constraints_of (map constraint_view (drop l.count l.constraints))) kind z))
    ≡ (fits_128_bits z && all_allow l.of (constraints_of (map constraint_view l.constraints)) kind z)

-- with those that a constraint to come allows they are those that one allows
abbrev pub invariant-set_of_some-loop-count : goal.invariant-set_of_some-loop-count
invariant-set_of_some-loop-count l =
    (kind : AbstractKind) → IsTrue (is_of l.of kind) → (z : ℤ) → (some_holds l.sets.items z || (fits_128_bits z && some_allow l.of (constraints_of (map constraint_view (drop l.count l.constraints))) kind z))
    ≡ (fits_128_bits z && some_allow l.of (constraints_of (map constraint_view l.constraints)) kind z)
