use Rattle.std.proofs.Common.{◌≤◌, ◌∙◌, List, ap, length, map, sym, arith}
use Rattle.std.proofs.lemmas.List.{take_all}
use Rattle.guard_policy.specs.Policies.{AbstractRule}
use Rattle.guard_policy.specs.PolicyView.{policy_view, said_view}
use Rattle.guard_files.proofs.AllowingLaws.{none_of}
use Rattle.guard_streams.specs.Counters.{fresh}
use Rattle.guard_streams.proofs.Rules.{one_rule_more}
use Rattle.guard_streams.proofs.rule_counts.rules_of.Goals as goal

pub loop-number-preserved : goal.loop-number-preserved
loop-number-preserved c =
    let p = policy_view c.args.policy.now in
    rw c.in_ok-push.ensures.items
    (one_rule_more c.loop-number.rules.items p.rules c.loop-number.number (said_view c.in-Some.rule) c.in_ok-count_of.field-0 (sym c.in-Some.ensures)
    c.in_ok-count_of.ensures c.loop-number.invariant)

pub returns : goal.returns
returns c =
    let p = policy_view c.args.policy.now in
    let all : length p.rules ≤ c.loop-number.number = omega (arith, c.loop-number-test.false, c.rules-number-end.ensures) in
    c.loop-number.invariant ∙ ap (λ (rules : List AbstractRule). map fresh rules) (take_all c.loop-number.number p.rules all)
