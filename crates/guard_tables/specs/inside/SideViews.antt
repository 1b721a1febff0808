-- What is said of a component, without where it lies in memory; and what an absent default fails.
use Rattle.std.specs.Prelude.{List, [], ◌∷◌, option_map}
use Rattle.guard_model.specs.AbstractValue.{AbstractValue}
use Rattle.guard_tables.specs.declared.sides.PartSide.{PartSide}
use Rattle.guard_tables.specs.declared.slots.Slots.{Slots}
use Rattle.guard_tables.specs.Demands.{SlotDemand, meets}
use Rattle.guard_tables.specs.Formulas.{failed_unless}
use Rattle.guard_tables.specs.Plan.{Side}

abbrev pub part_side_view : PartSide → Side
part_side_view s = record { absent = s.absent; present = s.present; default = option_map (λ v. v.items) s.default }

-- after m, the slots of those demands that the value doesn't meet
abbrev pub demands_marked : AbstractValue → List SlotDemand → Slots → Slots
demands_marked v [] m = m
demands_marked v (a ∷ demands) m = demands_marked v demands (failed_unless (meets a.demand v) a.slots m)
