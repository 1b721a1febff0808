use Rattle.std.proofs.Common.{◌≡◌, List, [], drop, sym, ap, ◌∙◌, subst}
use Rattle.std.proofs.lemmas.List.{at_drop_all}
use Rattle.guard_model.specs.TypeView.{type_view}
use Rattle.guard_model.specs.ValueView.{value_view}
use Rattle.guard_tables.specs.declared.demands.SlotDemand.{SlotDemand}
use Rattle.guard_tables.specs.inside.DemandViews.{slot_demands_view}
use Rattle.guard_tables.specs.inside.SideViews.{demands_marked}
use Rattle.guard_tables.specs.inside.SlotWords.{DemandsIn}
use Rattle.guard_tables.proofs.LaidWords.{failed_by}
use Rattle.guard_tables.proofs.sides.failed_by.Goals as goal

pub returns : goal.returns
returns c =
    let l = c.loop-slot_demand in
    let v = value_view c.args.value.now in
    let demands = c.args.demands.now in
    let none : drop l.slot_demand-index demands ≡ [] = at_drop_all (λ (rest : List SlotDemand). rest) demands l.slot_demand-index
    c.loop-slot_demand-test.false in
    let words : DemandsIn (slot_demands_view demands) = l.invariant.words
    (subst (λ (rest : List SlotDemand). DemandsIn (slot_demands_view rest)) (sym none) tt) in
    sym (ap (λ (rest : List SlotDemand). demands_marked v (slot_demands_view rest) l.failed) none) ∙ l.invariant.so_far
    ∙ failed_by (type_view c.args.ty.now) c.requires.sound (slot_demands_view demands) c.requires.apt words v c.requires.fits
    c.args.present c.law_words.ensures
