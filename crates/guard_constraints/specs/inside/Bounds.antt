-- Numbers of octets that the contents of single values don't exceed, where one is known.
use Rattle.std.specs.Prelude.{ℕ, Bool, true, Option, Some, None, IsTrue}
use Rattle.guard_model.specs.AbstractType.{AbstractType, AbstractKind, Constraint, Constraints}
use Rattle.guard_model.specs.AbstractValue.{AbstractValue}
use Rattle.guard_model.specs.Kinds.{kind_of}
use Rattle.guard_values.specs.SingleValues.{each_value, each_value_in_all, has_within}

-- nothing is said of a value where no such number is known
abbrev pub is_within : Option ℕ → AbstractKind → AbstractValue → Bool
is_within None kind v = true
is_within (Some n) kind v = has_within n kind v

-- of each single value in a constraint on the type
abbrev pub bounds : Option ℕ → AbstractType → Constraint → Bool
bounds n t c = each_value (is_within n (kind_of t)) c

abbrev pub bounds_all : Option ℕ → AbstractType → Constraints → Bool
bounds_all n t cs = each_value_in_all (is_within n (kind_of t)) cs

-- what the one bounds, the other does too
abbrev pub Grows : Option ℕ → Option ℕ → Type 0
Grows m n = (kind : AbstractKind) (v : AbstractValue) → IsTrue (is_within m kind v) → IsTrue (is_within n kind v)
