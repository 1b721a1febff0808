use Rattle.std.proofs.Common.{sym, ◌∙◌}
use Rattle.guard_policy.specs.Routing.{has_effect}
use Rattle.guard_policy.proofs.RuleSlots.{slot_in, slot_out}
use Rattle.guard_policy.proofs.routing.of_effect.Goals as goal
use Rattle.guard_policy.proofs.routing.of_effect.Goals.{then-has_effect, else-has_effect}

pub loop-place-preserved : goal.loop-place-preserved
loop-place-preserved c =
    elim c.if-has_effect.branch [
      | then-has_effect w ↦
          w.slots-is ∙ w.add_rule.ensures
          ∙ slot_in (has_effect c.args.effect) c.args.rules.now c.loop-place.place c.index-rules-place.result c.loop-place.slots c.loop-place-test.true c.index-rules-place.is
          (sym c.has_effect.ensures ∙ w.if-has_effect.true) c.loop-place.invariant
      | else-has_effect w ↦
          w.slots-is
          ∙ slot_out (has_effect c.args.effect) c.args.rules.now c.loop-place.place c.index-rules-place.result c.loop-place.slots c.loop-place-test.true c.index-rules-place.is
          (sym c.has_effect.ensures ∙ w.if-has_effect.false) c.loop-place.invariant
    ]
