-- What is known beforehand of the values that gathered constraints have: the sizes that all SIZE among them allow, the
-- codes that all FROM allow, and which constraints are left to be asked.
use Rattle.std.specs.Prelude.{◌≡◌, ℕ, ℤ, pos, Bool, true, false, ◌&&◌, List, [], ◌∷◌, drop, Option, Some, None, option_map}
use Rattle.std.specs.List.{list_all}
use Rattle.guard_integers.specs.Integers.{Integers, holds}
use Rattle.std.specs.Borrow.{Bor}
use Rattle.guard_model.specs.declared.ty.Cons.{Cons}
use Rattle.guard_model.specs.TypeView.{constraint_view}
use Rattle.guard_model.specs.AbstractType.{AbstractKind, Constraint}
use Rattle.guard_model.specs.AbstractValue.{AbstractValue}
use Rattle.guard_model.specs.AbstractValue as value
use Rattle.guard_eval.specs.Elements.{size_of, has_size, is_in_some, is_spelled_in}
use Rattle.guard_eval.specs.declared.value_answers.ValueAnswers.{ValueAnswers}
use Rattle.guard_eval.specs.declared.held_codes.HeldCodes.{HeldCodes}
use Rattle.guard_eval.specs.inside.HeldCodes.{has_code}
use Rattle.guard_eval.specs.inside.Together.{passes, passes_all}

-- ---- sizes: the value has one, and the set holds it; without a set nothing is asked

abbrev pub is_some_in : Integers → Option ℤ → Bool
is_some_in set None = false
is_some_in set (Some z) = holds set z

abbrev pub is_sized_in : Option Integers → AbstractValue → Bool
is_sized_in None v = true
is_sized_in (Some set) v = is_some_in set (option_map pos (size_of v))

-- of SIZE with this constraint, and of all of these
abbrev pub is_sized_by : AbstractKind → AbstractValue → Constraint → Bool
is_sized_by kind v c = has_size (λ n. passes kind n c) v

abbrev pub is_sized_by_all : List Constraint → AbstractKind → AbstractValue → Bool
is_sized_by_all cs kind v = list_all (is_sized_by kind v) cs

-- what is found of a constraint: that it is SIZE with this one
abbrev pub IsSize : Option (Bor Cons) → Constraint → Type 0
IsSize None c = Unit {0}
IsSize (Some size) c =
    (kind : AbstractKind) (v : AbstractValue) → passes kind v c ≡ is_sized_by kind v (constraint_view size.now)

-- ---- codes: the value is a character string, and the code of each character is held

abbrev pub is_coded_in : Option HeldCodes → AbstractValue → Bool
is_coded_in None v = true
is_coded_in (Some codes) (value.characters cs) = list_all (has_code codes) cs
is_coded_in (Some codes) _ = false

-- of FROM with all of these ranges: the code is in each alphabet, the string is spelled in each
abbrev pub is_in_each : List (Bor (List (ℕ × ℕ))) → ℕ → Bool
is_in_each alphabets c = list_all (λ ranges. is_in_some ranges.now c) alphabets

abbrev pub is_spelled_in_each : List (Bor (List (ℕ × ℕ))) → AbstractValue → Bool
is_spelled_in_each alphabets v = list_all (λ ranges. is_spelled_in ranges.now v) alphabets

-- what is found of a constraint: that it is FROM with these ranges
abbrev pub IsAlphabet : Option (Bor (List (ℕ × ℕ))) → Constraint → Type 0
IsAlphabet None c = Unit {0}
IsAlphabet (Some ranges) c = (kind : AbstractKind) (v : AbstractValue) → passes kind v c ≡ is_spelled_in ranges.now v

-- ---- constraints at their places

abbrev pub passes_first : AbstractKind → AbstractValue → List Constraint → Bool
passes_first kind v [] = true
passes_first kind v (c ∷ cs) = passes kind v c

abbrev pub passes_at : List Constraint → AbstractKind → AbstractValue → ℕ → Bool
passes_at cs kind v place = passes_first kind v (drop place cs)

abbrev pub passes_all_at : List ℕ → List Constraint → AbstractKind → AbstractValue → Bool
passes_all_at places cs kind v = list_all (passes_at cs kind v) places

abbrev pub IsKnownOfValues : ValueAnswers → List Constraint → AbstractKind → Type 0
IsKnownOfValues answers cs kind = (v : AbstractValue) →
    ((is_sized_in answers.sizes v && is_coded_in answers.codes v) && passes_all_at answers.others.items cs kind v) ≡ passes_all cs kind v
