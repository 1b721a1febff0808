-- What has failed once a value has passed a plan.
use Rattle.std.specs.Prelude.{ℕ, zero, suc, ℤ, Bool, true, false, List, [], ◌∷◌, Option, Some, None}
use Rattle.std.specs.List.{list_all}
use Rattle.guard_model.specs.AbstractType as type
use Rattle.guard_model.specs.AbstractType.{AbstractType, AbstractKind, Components, type_of, component}
use Rattle.guard_model.specs.AbstractValue as value
use Rattle.guard_model.specs.AbstractValue.{AbstractValue, Fields, Items}
use Rattle.guard_model.specs.Same.{same_numbers}
use Rattle.guard_der.specs.Der.{contents_octets}
use Rattle.guard_eval.specs.Elements.{size_of}
use Rattle.guard_tables.specs.declared.slots.Slots.{Slots}
use Rattle.guard_tables.specs.Slots.{none, added, has}
use Rattle.guard_tables.specs.Formulas.{failed_unless, implied}
use Rattle.guard_tables.specs.Plan.{AbstractTest, numbers, sizes, stored, spelled, AbstractCondition, Plan, Body, Parts, plan, simple, series, set, choice, list, set_of, asked, formula, part}

-- ---- conditions

-- what tests look at; a value has no contents octets where a length in them would need more than four octets
pub record Facts : Type 0 where
  pub number : Option ℤ
  pub size : Option ℕ
  pub characters : List ℕ
  pub contents : Option (List ℕ)

abbrev pub number_in : AbstractValue → Option ℤ
number_in (value.integer z) = Some z
number_in (value.enumerated z) = Some z
number_in _ = None

abbrev pub characters_in : AbstractValue → List ℕ
characters_in (value.characters cs) = cs
characters_in _ = []

-- of a value with these contents octets
abbrev pub facts : AbstractValue → Option (List ℕ) → Facts
facts v contents = record { number = number_in v; size = size_of v; characters = characters_in v; contents = contents }

abbrev pub facts_of : AbstractKind → AbstractValue → Facts
facts_of kind v = facts v (contents_octets kind v)

-- What isn't there passes no test.
abbrev pub some_passes : {A : Type 0} → (A → Bool) → Option A → Bool
some_passes test None = false
some_passes test (Some x) = test x

abbrev pub test_passes : AbstractTest → Facts → Bool
test_passes (numbers test) f = some_passes test f.number
test_passes (sizes test) f = some_passes test f.size
test_passes (stored os) f = some_passes (same_numbers os) f.contents
test_passes (spelled test) f = list_all test f.characters

abbrev pub conditions_marked : List AbstractCondition → Facts → Slots → Slots
conditions_marked [] f m = m
conditions_marked (c ∷ cs) f m = conditions_marked cs f (failed_unless (test_passes c.test f) c.slots m)

abbrev pub is_on_number : AbstractTest → Bool
is_on_number (numbers test) = true
is_on_number (sizes test) = false
is_on_number (stored os) = false
is_on_number (spelled test) = false

abbrev pub are_on_numbers : List AbstractCondition → Bool
are_on_numbers cs = list_all (λ c. is_on_number c.test) cs

-- ---- all kinds

abbrev pub absence_marked : Option Slots → Slots → Slots
absence_marked None m = m
absence_marked (Some slots) m = added m slots

abbrev pub items_marked : (AbstractValue → Slots → Slots) → Items → Slots → Slots
items_marked mark value.no_items m = m
items_marked mark (value.item v vs) m = items_marked mark vs (mark v m)

-- What has failed once a value of this kind has passed the body, where m had failed before. Of a value of another form
-- nothing is said.
unfoldable mutual
  pub marked : AbstractKind → Body → AbstractValue → Slots → Slots
  marked kind (simple k cs) v m = conditions_marked cs (facts_of kind v) m
  marked (type.sequence cs) (series ps) (value.fields fs) m = fields_marked cs ps fs m
  marked (type.set cs) (set ps) (value.fields fs) m = fields_marked cs ps fs m
  marked (type.choice cs) (choice ps) (value.chosen i v) m = alternative_marked cs ps i v m
  marked (type.sequence_of t) (list p) (value.items vs) m = items_marked (λ v m. type_marked t p v m) vs m
  marked (type.set_of t) (set_of p) (value.items vs) m = items_marked (λ v m. type_marked t p v m) vs m
  marked kind (asked cs body) v m = conditions_marked cs (facts_of kind v) (marked kind body v m)
  marked kind (formula implications body) v m = implied implications (marked kind body v none) m
  marked _ _ _ m = m

  -- by the body of a plan for a type
  pub type_marked : AbstractType → Plan → AbstractValue → Slots → Slots
  type_marked (type_of tags kind cons) (plan others constructed body) v m = marked kind body v m

  pub fields_marked : Components → Parts → Fields → Slots → Slots
  fields_marked (component name t presence cs) (part side p ps) (value.present v fs) m =
      fields_marked cs ps fs (type_marked t p v (added m side.present))
  fields_marked (component name t presence cs) (part side p ps) (value.absent fs) m =
      fields_marked cs ps fs (absence_marked side.absent m)
  fields_marked _ _ _ m = m

  pub alternative_marked : Components → Parts → ℕ → AbstractValue → Slots → Slots
  alternative_marked (component name t presence cs) (part side p ps) zero v m = type_marked t p v (added m side.present)
  alternative_marked (component name t presence cs) (part side p ps) (suc i) v m = alternative_marked cs ps i v m
  alternative_marked _ _ _ _ m = m

-- the slot has failed once the value has passed
abbrev pub fails_at : AbstractType → Plan → AbstractValue → ℕ → Bool
fails_at t p v slot = has (type_marked t p v none) slot
