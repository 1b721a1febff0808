use Rattle.std.proofs.Common.{List, ℕ, sym, ap, ◌∙◌}
use Rattle.guard_policy.specs.Routing.{given_by}
use Rattle.guard_policy.specs.Names.{is_meant}
use Rattle.guard_policy.specs.Policies.{AbstractRule}
use Rattle.guard_policy.proofs.RuleSlots.{slot_in, slot_out}
use Rattle.guard_policy.proofs.routing.meant.Goals as goal
use Rattle.guard_policy.proofs.routing.meant.Goals.{then-is_meant, else-is_meant}

pub loop-place-preserved : goal.loop-place-preserved
loop-place-preserved c =
    let named = ap (λ (given : List ℕ). is_meant given c.args.name.now) c.given_by.ensures in
    elim c.if-is_meant.branch [
      | then-is_meant w ↦
          w.slots-is ∙ w.add_rule.ensures
          ∙ slot_in (λ (r : AbstractRule). is_meant (given_by c.args.side r) c.args.name.now) c.args.rules.now c.loop-place.place c.index-rules-place.result c.loop-place.slots
          c.loop-place-test.true c.index-rules-place.is (sym named ∙ sym c.is_meant.ensures ∙ w.if-is_meant.true) c.loop-place.invariant
      | else-is_meant w ↦
          w.slots-is
          ∙ slot_out (λ (r : AbstractRule). is_meant (given_by c.args.side r) c.args.name.now) c.args.rules.now c.loop-place.place c.index-rules-place.result c.loop-place.slots
          c.loop-place-test.true c.index-rules-place.is (sym named ∙ sym c.is_meant.ensures ∙ w.if-is_meant.false) c.loop-place.invariant
    ]
