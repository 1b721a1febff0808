-- What is asked of values that are known by their numbers, and the ends of ranges.
use Rattle.std.specs.Prelude.{ℤ, ◌≡◌, Bool, true, false, ◌&&◌, IsTrue, Option, Some, None, int_le}
use Rattle.std.specs.Option.{is_none}
use Rattle.guard_integers.specs.Integers as integers
use Rattle.guard_integers.specs.Integers.{Integers}
use Rattle.guard_model.specs.AbstractType.{AbstractType, AbstractKind, Constraint, Constraints}
use Rattle.guard_model.specs.AbstractValue as value
use Rattle.guard_model.specs.AbstractValue.{AbstractValue}
use Rattle.guard_model.specs.Kinds.{is_integer}
use Rattle.guard_model.specs.Limits.{fits_128_bits}
use Rattle.guard_eval.specs.declared.number_sets.Numbered.{Numbered}
use Rattle.guard_eval.specs.declared.number_sets.Numbered.TheVariants as numbered
use Rattle.guard_eval.specs.Member.{holds, all_hold, some_hold, is_member}
use Rattle.guard_eval.specs.inside.Failures.{failure, failure_by, first_failure, some_allows}

-- the numbers from one on, and up to one; without an end there is none
abbrev pub begins : Option ℤ → ℤ → Bool
begins None z = false
begins (Some low) z = int_le low z

abbrev pub ends : Option ℤ → ℤ → Bool
ends None z = false
ends (Some high) z = int_le z high

-- ---- integers, of any INTEGER; and integers and items of which the walk says what allows them, whatever their type is

abbrev pub value_of : Numbered → ℤ → AbstractValue
value_of numbered.Integers z = value.integer z
value_of numbered.Walked z = value.integer z
value_of numbered.Items z = value.enumerated z

abbrev pub is_of : Numbered → AbstractKind → Bool
is_of numbered.Integers kind = is_integer kind
is_of numbered.Walked kind = true
is_of numbered.Items kind = true

abbrev pub allows : Numbered → Constraint → AbstractKind → ℤ → Bool
allows numbered.Integers c kind z = holds c kind (value.integer z)
allows numbered.Walked c kind z = is_none (failure_by c kind (value.integer z))
allows numbered.Items c kind z = is_none (failure_by c kind (value.enumerated z))

abbrev pub all_allow : Numbered → Constraints → AbstractKind → ℤ → Bool
all_allow numbered.Integers cs kind z = all_hold cs kind (value.integer z)
all_allow numbered.Walked cs kind z = is_none (first_failure cs kind (value.integer z))
all_allow numbered.Items cs kind z = is_none (first_failure cs kind (value.enumerated z))

abbrev pub some_allow : Numbered → Constraints → AbstractKind → ℤ → Bool
some_allow numbered.Integers cs kind z = some_hold cs kind (value.integer z)
some_allow numbered.Walked cs kind z = some_allows cs kind (value.integer z)
some_allow numbered.Items cs kind z = some_allows cs kind (value.enumerated z)

abbrev pub has : Numbered → AbstractType → ℤ → Bool
has numbered.Integers t z = is_member t (value.integer z)
has numbered.Walked t z = is_none (failure t (value.integer z))
has numbered.Items t z = is_none (failure t (value.enumerated z))

-- the set holds the numbers of what is allowed, on whatever kind
abbrev pub HoldsThose : Numbered → Integers → (AbstractKind → ℤ → Bool) → Type 0
HoldsThose of set allowed =
    (kind : AbstractKind) → IsTrue (is_of of kind) → (z : ℤ) → integers.holds set z ≡ (fits_128_bits z && allowed kind z)
