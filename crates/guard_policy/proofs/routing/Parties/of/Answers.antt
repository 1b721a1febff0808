use Rattle.std.proofs.Common.{◌≡◌, ◌+◌, List, ℕ, take, length, ap, ◌∙◌, subst, arith}
use Rattle.std.specs.Prelude.{bytes_eq}
use Rattle.std.specs.Borrow.{Bor}
use Rattle.std.specs.Map.{lookup}
use Rattle.std.proofs.Math.Seq.{take-length}
use Rattle.guard_policy.specs.declared.policy.SaidRule.{SaidRule}
use Rattle.guard_policy.specs.SaidView.{said_view}
use Rattle.guard_policy.specs.inside.Said.{rules_view}
use Rattle.guard_policy.specs.Routing.{slots_meant}
use Rattle.guard_policy.proofs.EntriesRead.{taken_is}
use Rattle.guard_policy.proofs.PartyNames.{Finds, put_one, finds_all}
use Rattle.guard_policy.proofs.routing.Parties.of.Goals as goal

pub loop-rule-preserved : goal.loop-rule-preserved
loop-rule-preserved c =
    let rules = c.args.rules.now in
    let i = c.loop-rule.rule-index in
    let named = c.as_bytes-name.ensures.value ∙ c.given_by.ensures in
    put_one (λ x. x.octets.items) c.args.side (rules_view rules) (rules_view (take i rules)) (rules_view (take (i + 1) rules)) (said_view c.rule-item.result.now)
    c.loop-rule.named.entries c.insert.new.self.entries c.in_ok-of_name.field-0 c.meant-slots.result
    (taken_is (λ (x : Bor SaidRule). said_view x.now) rules i c.rule-item.result c.loop-rule-test.true c.rule-item.is)
    c.in_ok-insert.ensures.entries (c.in_ok-of_name.ensures ∙ named)
    (c.meant-slots.ensures ∙ ap (λ (name : List ℕ). slots_meant c.args.side name (rules_view rules)) named)
    c.loop-rule.invariant

pub returns : goal.returns
returns c = λ name.
    let rules = c.args.rules.now in
    let past = c.loop-rule-test.false in
    let within = c.loop-rule.auto.rule-index-end in
    let all : c.loop-rule.rule-index ≡ length rules = omega (arith, past, within) in
    let found = lookup (λ key. bytes_eq name key.octets.items) c.loop-rule.named.entries in
    finds_all c.args.side (rules_view rules) name found c.meant.result
    (c.meant.ensures ∙ ap (λ (other : List ℕ). slots_meant c.args.side other (rules_view rules)) c.as_bytes.ensures.value)
    (subst (λ (taken : List (Bor SaidRule)). Finds c.args.side (rules_view rules) (rules_view taken) name found) (ap (λ (n : ℕ). take n rules) all ∙ take-length rules)
    (c.loop-rule.invariant name))
