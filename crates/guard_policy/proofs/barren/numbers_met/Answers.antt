use Rattle.std.proofs.Common.{◌≡◌, ◌&&◌, ℤ, [], refl, IsTrue}
use Rattle.guard_integers.specs.Integers.{holds}
use Rattle.guard_model.specs.AbstractType as type
use Rattle.guard_model.specs.AbstractType.{AbstractKind}
use Rattle.guard_model.specs.AbstractValue as value
use Rattle.guard_model.specs.Kinds.{is_integer}
use Rattle.guard_model.specs.Limits.{fits_128_bits}
use Rattle.guard_model.specs.TypeView.{type_view}
use Rattle.guard_eval.specs.Member.{is_member}
use Rattle.guard_policy.proofs.Reasons.{if_ok_map}
use Rattle.guard_policy.proofs.barren.numbers_met.Goals as goal

pub returns-in-Type : goal.returns-in-Type
returns-in-Type c =
    let t = type_view c.in-Type.ty.now in
    rw c.in-Type.is
    (if_ok_map (λ set. (kind : AbstractKind) → IsTrue (is_integer kind) → (z : ℤ) → holds set z ≡ (fits_128_bits z && is_member t (value.integer z)))
    (λ set. (z : ℤ) → holds set z ≡ (fits_128_bits z && is_member t (value.integer z))) c.numbers_of_type.result
    (λ set same z. same (type.integer []) refl z) c.numbers_of_type.ensures)
