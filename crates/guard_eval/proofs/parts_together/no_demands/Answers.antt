use Rattle.std.proofs.Common.{Bool, ◌&&◌, refl, sym, ap, ◌∙◌, arith}
use Rattle.guard_model.specs.Counts.{component_count}
use Rattle.guard_model.proofs.Components.{component_count_view}
use Rattle.guard_eval.specs.inside.PartsTogether.{are_within}
use Rattle.guard_eval.proofs.PartsTogether.{asks_no_more, one_longer}
use Rattle.guard_eval.proofs.parts_together.no_demands.Goals as goal

pub returns-clause-met : goal.returns-clause-met
returns-clause-met c = λ kind v.
    let h = c.loop.invariant.1 kind v in
    ap (λ (b : Bool). b && are_within 0 c.loop.places.items kind v) h.0 ∙ h.1

pub returns-clause-places : goal.returns-clause-places
returns-clause-places c =
    let count = sym (component_count_view c.components-items.result.now) ∙ ap component_count c.components-items.ensures in
    omega (arith, c.loop.invariant.0, c.loop-test.false, c.loop.auto.index-end, count)

pub loop-preserved : goal.loop-preserved
loop-preserved c = (
  one_longer c.loop.places.items c.push.new.self.items _ c.loop.index c.in_ok-push.ensures.items c.loop.invariant.0,
  asks_no_more c.loop.places.items c.push.new.self.items _ c.in_ok-push.ensures.items refl refl c.new.ensures.items c.loop.invariant.1,
)
