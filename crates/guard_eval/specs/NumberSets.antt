-- The integers that a constraint allows, as a set (X.680 51.4 and 51.5).
use Rattle.std.specs.Prelude.{ℤ, ◌≡◌, Bool, ◌&&◌, IsTrue}
use Rattle.guard_integers.specs.Integers.{Integers, holds}
use Rattle.guard_model.specs.AbstractType.{AbstractKind}
use Rattle.guard_model.specs.Kinds.{is_integer}
use Rattle.guard_model.specs.Limits.{fits_128_bits}

-- the set holds what is allowed, whatever INTEGER has it
abbrev pub HasNumbers : Integers → (AbstractKind → ℤ → Bool) → Type 0
HasNumbers set allows =
    (kind : AbstractKind) → IsTrue (is_integer kind) → (z : ℤ) → holds set z ≡ (fits_128_bits z && allows kind z)
