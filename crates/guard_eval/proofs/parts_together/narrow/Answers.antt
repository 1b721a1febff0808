use Rattle.std.proofs.Common.{◌≡◌, ◌&&◌, Bool, true, sym, ap, ◌∙◌}
use Rattle.std.specs.Prelude.{if◌then◌else◌}
use Rattle.guard_eval.specs.declared.parts_together.PlaceDemand.{PlaceDemand}
use Rattle.guard_eval.specs.Presence.{is_there}
use Rattle.guard_eval.specs.inside.PartsTogether.{is_within_at, meets}
use Rattle.guard_eval.proofs.PartsTogether.{and_true, demand_changed, place_narrowed}
use Rattle.guard_eval.proofs.parts_together.narrow.Goals.{then-place, else-place, then-place-2, else-place-2}
use Rattle.guard_eval.proofs.parts_together.narrow.Goals as goal

pub returns-clause-added : goal.returns-clause-added
returns-clause-added c = λ kind v.
    let p = c.index_mut-place.result.now in
    let q : PlaceDemand = record { there = c.if-place.place; absent = c.if-place-2.place; within = p.within } in
    let there : c.if-place.place ≡ (p.there && c.args.there) = elim c.if-place.branch [
      | then-place w ↦ w.place-is ∙ ap (λ (b : Bool). b && c.args.there) (sym w.if-place.true)
      | else-place w ↦ w.place-is ∙ (w.if-place.false ∙ ap (λ (b : Bool). b && c.args.there) (sym w.if-place.false))
    ] in
    let absent : c.if-place-2.place ≡ (p.absent && c.args.absent) = elim c.if-place-2.branch [
      | then-place-2 w ↦ w.place-is ∙ ap (λ (b : Bool). b && c.args.absent) (sym w.if-place-2.true)
      | else-place-2 w ↦ w.place-is ∙ (w.if-place-2.false ∙ ap (λ (b : Bool). b && c.args.absent) (sym w.if-place-2.false))
    ] in
    let placed = if is_there c.args.at v then c.args.there else c.args.absent in
    demand_changed c.args.demands.now.possible c.args.demands.now.places.items c.args.at p q kind v placed true c.requires.place c.index_mut-place.ensures.value
    (place_narrowed v c.args.at p q c.args.there c.args.absent there absent) (sym (and_true (is_within_at kind v c.args.at p))) ∙ ap (λ (b : Bool). meets c.args.demands.now kind v && b) (and_true placed)
