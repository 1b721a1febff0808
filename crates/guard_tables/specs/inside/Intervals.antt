-- Numbers that pass tests, as private contracts cite them.
use Rattle.std.specs.Prelude.{ℕ, ℤ, ◌≤ℤ◌, ◌≡◌, true, List, [], ◌∷◌, map, Option, Some, None, ⊤}
use Rattle.guard_model.specs.AbstractValue as value
use Rattle.guard_model.specs.NamedLists.{is_item}
use Rattle.guard_der.specs.Simple.{simple_fault, simple_value}
use Rattle.guard_tables.specs.declared.node.Cold.{Cold}
use Rattle.guard_tables.specs.declared.node.SimpleKind.{SimpleKind}
use Rattle.guard_tables.specs.declared.plain_interval.Interval.{Interval}
use Rattle.guard_tables.specs.declared.slots.Slots.{Slots}
use Rattle.guard_tables.specs.Marking.{facts, test_passes, conditions_marked}
use Rattle.guard_tables.specs.NodeViews.{kind_view, unnamed}
use Rattle.guard_tables.specs.Plan.{AbstractTest, AbstractCondition}
use Rattle.guard_tables.specs.TableNodes.{conditions_of}

abbrev pub IsWithin : Interval → ℤ → Type 0
IsWithin i z = (i.low ≤ℤ z) × (z ≤ℤ i.high)

-- whatever its contents octets are
abbrev pub PassesTest : ℤ → AbstractTest → Type 0
PassesTest z t = (os : Option (List ℕ)) → test_passes t (facts (value.integer z) os) ≡ true

abbrev pub PassesAll : ℤ → List AbstractCondition → Type 0
PassesAll z [] = ⊤
PassesAll z (c ∷ cs) = PassesTest z c.test × PassesAll z cs

-- an item of an ENUMERATED with these numbers
abbrev pub IsItemPassed : ℤ → List ℤ → List AbstractCondition → Type 0
IsItemPassed z items cs = (is_item z (map unnamed items) ≡ true) × PassesAll z cs

-- contents octets that are lawful for the kind and fail nothing
pub record IsPassed (kind : SimpleKind) (c : Cold) (os : List ℕ) : Type 0 where
  pub lawful : simple_fault (kind_view kind c.items) os ≡ None
  pub free : (m : Slots)
      → conditions_marked (conditions_of c) (facts (simple_value (kind_view kind c.items) os) (Some os)) m ≡ m
