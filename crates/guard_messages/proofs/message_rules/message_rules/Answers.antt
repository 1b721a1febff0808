use Rattle.std.proofs.Common.{◌≤◌, ◌∙◌, ◌++◌, length, refl, sym, ap, append_assoc, arith}
use Rattle.guard_policy.specs.PolicyView.{policy_view, said_view}
use Rattle.guard_files.proofs.AllowingLaws.{from_item, none_of, past_all}
use Rattle.guard_messages.specs.Reasons.{message_rules, rule_line_of}
use Rattle.guard_messages.proofs.message_rules.message_rules.Goals as goal

pub unreachable-requires : goal.unreachable-requires
unreachable-requires c =
    let p = policy_view c.args.policy.now in
    let within = c.loop-number-test.true in
    let many = c.rules-number-end.ensures in
    none_of p.rules c.loop-number.number (sym (rw c.in_default.is at c.rule.ensures)) (omega (arith, within, many))

pub loop-number-preserved : goal.loop-number-preserved
loop-number-preserved c =
    let message = c.args.message.now in
    let text = c.loop-number.text.items in
    rw c.in_ok-add_rule_of.ensures
    (append_assoc text (rule_line_of message (said_view c.in-Some.rule)) _
    ∙ ap (λ rest. text ++ rest) (sym (from_item (message_rules message) _ c.loop-number.number _ (sym c.in-Some.ensures)))
    ∙ c.loop-number.invariant)

pub returns : goal.returns
returns c =
    let p = policy_view c.args.policy.now in
    let all : length p.rules ≤ c.loop-number.number = omega (arith, c.loop-number-test.false, c.rules-number-end.ensures) in
    past_all (message_rules c.args.message.now) p.rules c.loop-number.number _ _ refl all c.loop-number.invariant
