-- Which types a table's nodes stand for: what one pass by them reads, and what then has failed.
use Rattle.std.specs.Prelude.{ℕ, ◌≡◌, IsTrue, List, ◌∷◌}
use Rattle.guard_model.specs.AbstractType.{AbstractType}
use Rattle.guard_model.specs.AbstractValue.{AbstractValue}
use Rattle.guard_der.specs.Fits.{fits}
use Rattle.guard_tables.specs.declared.node_list.Nodes.{Nodes}
use Rattle.guard_tables.specs.Laws.{has_failed}
use Rattle.guard_tables.specs.Marking.{fails_at}
use Rattle.guard_tables.specs.NodesView.{root_of}
use Rattle.guard_tables.specs.Standing.{PlanFor}

-- a declared type and the types of rules: slot 0 is the declared type's, and slot i + 1 that of rule i
pub record StandsFor (nodes : Nodes) (declared : AbstractType) (rules : List AbstractType) : Type 0 where
  -- the whole has the declared type's tags, parts and defaults
  pub plan : PlanFor (root_of nodes) declared
  -- and a slot has failed exactly where the value is no member of its type
  pub fails : (v : AbstractValue) → IsTrue (fits declared v) → (slot : ℕ)
      → fails_at declared (root_of nodes) v slot ≡ has_failed (declared ∷ rules) v slot
