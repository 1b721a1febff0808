-- Laws that a function with no body carries.
use Rattle.std.specs.Prelude.{ℕ, ◌≡◌, ◌<◌, ◌^◌, List, length, IsTrue, Some, option_map}
use Rattle.std.specs.List.{AllByRecursion}
use Rattle.guard_model.specs.AbstractType.{AbstractType}
use Rattle.guard_model.specs.AbstractValue.{AbstractValue}
use Rattle.guard_model.specs.Kinds.{kind_of}
use Rattle.guard_der.specs.Der.{der}
use Rattle.guard_der.specs.Fits.{fits}
use Rattle.guard_der.specs.Reading.{contents_at}
use Rattle.guard_der.specs.Sound.{is_sound}
use Rattle.guard_tables.specs.declared.slots.Slots.{Slots}
use Rattle.guard_tables.specs.Slots.{none}
use Rattle.guard_tables.specs.Plan.{Plan, Body}
use Rattle.guard_tables.specs.Marking.{marked, type_marked}
use Rattle.guard_tables.specs.Standing.{PlanFor, BodyFor}
use Rattle.guard_reader.specs.Judging.{contents_judged, message_judged}
use Rattle.guard_reader.specs.Octets.{ok}

-- A pass over contents octets of a sound type reads them as `decode` does, and what fails is what fails at the value.
abbrev pub ContentsLaw : Type 0
ContentsLaw =
    (b : Body) (t : AbstractType) → BodyFor b (kind_of t) → IsTrue (is_sound t)
    → (at start : ℕ) (os : List ℕ) (m : Slots) → AllByRecursion (λ o. o < 256) os → length os < 2 ^ 32
    → contents_judged b os m ≡ option_map (λ v. marked (kind_of t) b v m) (ok (contents_at (kind_of t) at start os))

-- Of a whole message of a sound type that the plan stands for: there is an answer exactly where some value of the type
-- has the octets as its encoding, and then it is what fails at that value.
pub record MessageLaw (p : Plan) (t : AbstractType) (os : List ℕ) : Type 0 where
  pub found : (m : Slots) → message_judged p os ≡ Some m
      → (v : AbstractValue) × IsTrue (fits t v) × (der t v ≡ Some os) × (m ≡ type_marked t p v none)
  pub only : (v : AbstractValue) → IsTrue (fits t v) → der t v ≡ Some os
      → message_judged p os ≡ Some (type_marked t p v none)

abbrev pub MessagesLaw : Type 0
MessagesLaw =
    (p : Plan) (t : AbstractType) (os : List ℕ) → PlanFor p t → IsTrue (is_sound t)
    → AllByRecursion (λ o. o < 256) os → MessageLaw p t os
