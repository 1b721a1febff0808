use Rattle.std.proofs.Common.{◌≡◌, ◌++◌, [], drop, length, map}
use Rattle.guard_tables.specs.Forms.{forms_from, nothing_yet}
use Rattle.guard_tables.specs.NodeViews.{implication_view}
use Rattle.guard_tables.specs.inside.DemandViews.{slot_demands_view}
use Rattle.guard_tables.specs.inside.FormViews.{formula_of}
use Rattle.guard_tables.proofs.demands_at_node.forms_from.Given as goal

-- with what comes of the demands that are left it is what comes of all
abbrev pub invariant-loop-place : goal.invariant-loop-place
invariant-loop-place l = record {
  terms : (forms_from l.place (slot_demands_view (drop l.place l.demands)) (formula_of l.tests [])).terms
      ≡ (forms_from 0 (slot_demands_view l.demands) (nothing_yet (length l.demands))).terms;
  implications : map implication_view l.implications.items ++ (forms_from l.place (slot_demands_view (drop l.place l.demands)) (formula_of l.tests [])).implications
      ≡ (forms_from 0 (slot_demands_view l.demands) (nothing_yet (length l.demands))).implications;
  next : (forms_from l.place (slot_demands_view (drop l.place l.demands)) (formula_of l.tests [])).next
      ≡ (forms_from 0 (slot_demands_view l.demands) (nothing_yet (length l.demands))).next;
}
