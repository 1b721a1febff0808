-- What names mean where a constraint is written: lower-case ones mean values, upper-case ones types.
use Rattle.std.specs.Prelude.{ℕ, Bool, false, List, Option, Some, None}
use Rattle.guard_model.specs.AbstractType.{AbstractType}
use Rattle.guard_model.specs.SameType.{same_base}
use Rattle.guard_values.specs.Meanings.{Meaning}

pub record Visible : Type 0 where
  pub values : Meaning
  pub types : List ℕ → Option AbstractType

-- There is such a type, and it has the base of the type that it is to constrain.
abbrev pub has_base_of : AbstractType → Option AbstractType → Bool
has_base_of t None = false
has_base_of t (Some u) = same_base u t
