-- What a pass tells of a value: which types have it.
use Rattle.std.specs.Prelude.{◌≡◌, ℕ, zero, suc, Bool, false, List, [], ◌∷◌}
use Rattle.guard_model.specs.AbstractType.{AbstractType}
use Rattle.guard_model.specs.AbstractValue.{AbstractValue}
use Rattle.guard_eval.specs.Member.{is_member}
use Rattle.guard_tables.specs.Slots.{has}
use Rattle.guard_reader.specs.declared.marks.Marks.{Marks}

-- whether the type at this place has the value
abbrev pub is_in : List AbstractType → AbstractValue → ℕ → Bool
is_in [] v slot = false
is_in (t ∷ ts) v zero = is_member t v
is_in (t ∷ ts) v (suc slot) = is_in ts v slot

-- the marks are those of the types that have the value
abbrev pub HasMarks : Marks → List AbstractType → AbstractValue → Type 0
HasMarks m types v = (slot : ℕ) → has m.members slot ≡ is_in types v slot
