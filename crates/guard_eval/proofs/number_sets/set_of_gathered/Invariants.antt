use Rattle.std.proofs.Common.{◌≡◌, not, ◌&&◌, ℤ, drop, IsTrue}
use Rattle.std.specs.List.{list_all}
use Rattle.guard_integers.specs.Integers.{some_holds}
use Rattle.guard_model.specs.AbstractType.{AbstractKind}
use Rattle.guard_model.specs.Limits.{fits_128_bits}
use Rattle.guard_eval.specs.inside.NumberSets.{is_of, allows}
use Rattle.guard_eval.specs.inside.Together.{gathered_view}
use Rattle.guard_eval.proofs.number_sets.set_of_gathered.Given as goal

-- those that none leaves out so far, and that the constraints to come allow, are those that all allow
abbrev pub invariant-loop-count : goal.invariant-loop-count
invariant-loop-count l =
    (kind : AbstractKind) → IsTrue (is_of l.of kind) → (z : ℤ) → (fits_128_bits z && (not (some_holds l.left_out.items z) && list_all (λ c. allows l.of c kind z) (gathered_view (drop l.count l.constraints))))
    ≡ (fits_128_bits z && list_all (λ c. allows l.of c kind z) (gathered_view l.constraints))
