use Rattle.std.proofs.Common.{◌≡◌, ◌∙◌, ◌-◌, ap, subst, arith, length, None, ℕ}
use Rattle.guard_tables.specs.declared.slots.Slots.{Slots}
use Rattle.guard_tables.specs.NodesView.{spots_in}
use Rattle.guard_tables.specs.TableNodes.{spot_at}
use Rattle.guard_reader.specs.Fronts.{alone}
use Rattle.guard_reader.specs.Judging.{message_judged}
use Rattle.guard_reader.specs.inside.Answers.{Answers}
use Rattle.guard_reader.specs.inside.NodeParts.{pass_at}
use Rattle.guard_reader.proofs.NodeSteps.{message_found, message_none}
use Rattle.guard_reader.proofs.walking.decide_by_front.Goals as goal

pub returns-in-Some : goal.returns-in-Some
returns-in-Some c =
    let t = c.args.table.now in
    let k = c.len-top.result - 1 in
    let top : k ≡ length t.hots.items - 1 = omega (arith, c.len-top.ensures, t.hots.ok.0) in
    subst (λ (k : ℕ). Answers c.within_tag.result c.within_tag.new.failed (message_judged (spot_at (spots_in t) k).plan c.args.octets.now)) top
    (message_found t k c.args.octets.now c.in-Some.inside.now c.within_tag.result c.within_tag.new.failed (c.in-Some.ensures ∙ ap alone c.front_at.ensures)
    (subst (λ (m : Slots). Answers c.within_tag.result c.within_tag.new.failed (pass_at (spots_in t) k c.in-Some.inside.now m)) c.requires c.within_tag.ensures))

pub returns-in-None : goal.returns-in-None
returns-in-None c =
    let t = c.args.table.now in
    let k = c.len-top.result - 1 in
    let top : k ≡ length t.hots.items - 1 = omega (arith, c.len-top.ensures, t.hots.ok.0) in
    subst (λ (k : ℕ). message_judged (spot_at (spots_in t) k).plan c.args.octets.now ≡ None) top (message_none t k c.args.octets.now (c.in-None.ensures ∙ ap alone c.front_at.ensures))
