use Rattle.std.proofs.Common.{◌≡◌, drop}
use Rattle.guard_model.specs.Kinds.{kind_of}
use Rattle.guard_model.specs.TypeView.{type_view}
use Rattle.guard_model.specs.ValueView.{value_view}
use Rattle.guard_tables.specs.Apt.{AreApt}
use Rattle.guard_tables.specs.inside.DemandViews.{slot_demands_view}
use Rattle.guard_tables.specs.inside.SideViews.{demands_marked}
use Rattle.guard_tables.specs.inside.SlotWords.{DemandsIn}
use Rattle.guard_tables.proofs.sides.failed_by.Given as goal

-- what has failed, with what those demands add that are left
abbrev pub invariant-loop-slot_demand : goal.invariant-loop-slot_demand
invariant-loop-slot_demand l = record {
  apt : AreApt (kind_of (type_view l.ty)) (slot_demands_view (drop l.slot_demand-index l.demands));
  words : DemandsIn (slot_demands_view (drop l.slot_demand-index l.demands)) → DemandsIn (slot_demands_view l.demands);
  so_far : demands_marked (value_view l.value) (slot_demands_view (drop l.slot_demand-index l.demands)) l.failed ≡ demands_marked
      (value_view l.value) (slot_demands_view l.demands) l.initial.failed;
}
