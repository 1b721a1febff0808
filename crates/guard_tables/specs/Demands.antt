-- What is asked of the values at a node of a table, and what that comes down to there: tests of the value alone, and
-- demands on its parts.
use Rattle.std.specs.Prelude.{ℕ, Bool, not, ◌&&◌, List, []}
use Rattle.std.specs.List.{list_any}
use Rattle.guard_model.specs.AbstractType as type
use Rattle.guard_model.specs.AbstractType.{AbstractType, AbstractKind, Constraint}
use Rattle.guard_model.specs.AbstractValue.{AbstractValue}
use Rattle.guard_model.specs.Same.{same}
use Rattle.guard_eval.specs.Elements.{has_size, is_spelled_in, has_each}
use Rattle.guard_eval.specs.Presence.{part_at, is_there, if_there}
use Rattle.guard_eval.specs.Member.{is_member, holds}
use Rattle.guard_tables.specs.declared.slots.Slots.{Slots}
use Rattle.guard_tables.specs.Slots.{has}

-- ---- what is asked

-- membership in a type, or in a constraint on a type of this kind
pub data Demand : Type 0 where
  by_type : AbstractType → Demand
  by_constraint : AbstractKind → Constraint → Demand

-- a demand, with the slots that fail where it isn't met
pub record SlotDemand : Type 0 where
  pub slots : Slots
  pub demand : Demand

abbrev pub meets : Demand → AbstractValue → Bool
meets (by_type t) v = is_member t v
meets (by_constraint kind c) v = holds c kind v

-- the slot fails for this
abbrev pub demand_fails : ℕ → AbstractValue → SlotDemand → Bool
demand_fails slot v a = has a.slots slot && not (meets a.demand v)

-- the slot fails for some of these
abbrev pub demands_fail : ℕ → AbstractValue → List SlotDemand → Bool
demands_fail slot v demands = list_any (demand_fails slot v) demands

-- ---- what it comes down to at one node, with the clause of X.680

pub data Atom : Type 0 where
  -- On BOOLEAN, INTEGER, ENUMERATED and NULL a constraint of any form is one set of numbers or of truth values: it
  -- isn't taken apart.
  scalar : AbstractKind → Constraint → Atom
  -- 51.2, on the other kinds: the value is this one
  equals : AbstractValue → Atom
  -- 51.5: the size is one of the numbers that this constraint on INTEGER has
  sized : Constraint → Atom
  -- 51.7: each character lies in one of these ranges
  spelled : List (ℕ × ℕ) → Atom
  -- each element meets this
  each : Demand → Atom
  -- the component or the chosen alternative at this place, if it is there, meets this
  within : ℕ → Demand → Atom
  -- the component or the alternative at this place is there, or isn't (51.8.6 to 51.8.9)
  sent : ℕ → Atom
  unsent : ℕ → Atom

-- a test or a demand on a part, with the slots that fail where it doesn't pass
pub record Term : Type 0 where
  pub slots : Slots
  pub atom : Atom

abbrev pub passes : Atom → AbstractValue → Bool
passes (scalar kind c) v = holds c kind v
passes (equals w) v = same w v
passes (sized c) v = has_size (holds c (type.integer [])) v
passes (spelled ranges) v = is_spelled_in ranges v
passes (each d) v = has_each (meets d) v
passes (within i d) v = if_there (meets d) (part_at i v)
passes (sent i) v = is_there i v
passes (unsent i) v = not (is_there i v)

abbrev pub term_fails : ℕ → AbstractValue → Term → Bool
term_fails slot v t = has t.slots slot && not (passes t.atom v)

abbrev pub terms_fail : ℕ → AbstractValue → List Term → Bool
terms_fail slot v terms = list_any (term_fails slot v) terms
