-- How conditions are counted.
use Rattle.std.specs.Prelude.{ℕ, List, nat_eq, Option, Some, None, if◌then◌else◌}
use Rattle.guard_model.specs.AbstractType.{Constraint, Parts}
use Rattle.guard_model.specs.TypeView.{OnePart}
use Rattle.guard_tables.specs.Conditions.{inside, of_constraint, of_parts}

-- of WITH COMPONENT, and of the list of WITH COMPONENTS
abbrev pub of_each : Constraint → List ℕ → ℕ
of_each c way = inside 0 (λ place. of_constraint c) way

abbrev pub of_listed : Parts → List ℕ → ℕ
of_listed ps way = inside 0 (of_parts ps) way

-- of one part in it
abbrev pub of_within : Option Constraint → ℕ → ℕ → List ℕ → ℕ
of_within None at_place place way = 0
of_within (Some c) at_place place way = if nat_eq at_place place then of_constraint c way else 0

abbrev pub of_part : OnePart → ℕ → List ℕ → ℕ
of_part p place way = of_within p.within p.place place way
