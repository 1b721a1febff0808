-- What is known beforehand of the values that pass all of some constraints.
use Rattle.std.specs.Prelude.{ℤ, ◌≡◌, true, false, ◌&&◌, List}
use Rattle.guard_integers.specs.Integers.{Integers, holds}
use Rattle.guard_model.specs.AbstractType.{AbstractKind, Constraint}
use Rattle.guard_model.specs.AbstractValue as value
use Rattle.guard_model.specs.AbstractValue.{AbstractValue}
use Rattle.guard_model.specs.Limits.{fits_128_bits}
use Rattle.guard_eval.specs.declared.own_answers.Known.{Known}
use Rattle.guard_eval.specs.declared.own_answers.Known.TheVariants as known
use Rattle.guard_eval.specs.inside.ValueAnswers.{IsKnownOfValues}
use Rattle.guard_eval.specs.inside.Together.{passes_all}

-- the set holds the numbers of those that pass them, on a type of this kind
abbrev pub HoldsPassing : Integers → (ℤ → AbstractValue) → List Constraint → AbstractKind → Type 0
HoldsPassing set value_of cs kind = (z : ℤ) → holds set z ≡ (fits_128_bits z && passes_all cs kind (value_of z))

abbrev pub IsKnown : Known → List Constraint → AbstractKind → Type 0
IsKnown known.Nothing cs kind = Unit {0}
IsKnown (known.Integers set) cs kind = HoldsPassing set (λ z. value.integer z) cs kind
IsKnown (known.Items set) cs kind = HoldsPassing set (λ z. value.enumerated z) cs kind
IsKnown (known.Truths of_true of_false) cs kind =
    (of_true ≡ passes_all cs kind (value.boolean true)) × (of_false ≡ passes_all cs kind (value.boolean false))
IsKnown (known.Null passing) cs kind = passing ≡ passes_all cs kind value.null
IsKnown (known.Found answers) cs kind = IsKnownOfValues answers cs kind
