use Rattle.std.proofs.Common.{true, sym}
use Rattle.guard_model.specs.TypeView.{constraint_view}
use Rattle.guard_eval.specs.declared.parts_together.PlaceDemand.{PlaceDemand}
use Rattle.guard_eval.specs.Presence.{kind_at, part_at, if_there}
use Rattle.guard_eval.specs.inside.Together.{passes}
use Rattle.guard_eval.specs.inside.PartsTogether.{is_placed_at}
use Rattle.guard_eval.proofs.PartsTogether.{and_true, demand_changed, within_more}
use Rattle.guard_eval.proofs.parts_together.add_within.Goals as goal

pub returns-clause-added : goal.returns-clause-added
returns-clause-added c = λ kind v.
    let p = c.index_mut.result.now in
    let q : PlaceDemand = record { there = p.there; absent = p.absent; within = c.push.new.self } in
    demand_changed c.args.demands.now.possible c.args.demands.now.places.items c.args.at p q kind v true (if_there (λ w. passes (kind_at c.args.at kind) w (constraint_view c.args.cons.now)) (part_at c.args.at v)) c.requires.place c.index_mut.ensures.value
    (sym (and_true (is_placed_at v c.args.at p))) (within_more p.within.items c.push.new.self.items c.args.cons (kind_at c.args.at kind) (part_at c.args.at v) c.in_ok-push.ensures.items)
