use Rattle.std.proofs.Common.{◌≡◌, ◌++◌, List, [], ℕ, map, drop, get_or, ap, sym, ◌∙◌, arith}
use Rattle.std.proofs.lemmas.List.{append-nil, drop_all}
use Rattle.guard_policy.specs.SaidView.{said_view}
use Rattle.guard_policy.specs.inside.Numbers.{picked}
use Rattle.guard_policy.specs.inside.Said.{rules_view}
use Rattle.guard_policy.proofs.Listed.{viewed}
use Rattle.guard_policy.proofs.MessageNumbers.{picked_all, rule_picked, none_picked}
use Rattle.guard_policy.proofs.tables.rules_named.Goals as goal
use Rattle.guard_policy.proofs.tables.rules_named.Goals.{in-Some+in_ok-push, in_default}

pub loop-number-preserved : goal.loop-number-preserved
loop-number-preserved c =
    let all = map said_view c.args.rules.now in
    let numbers = c.rules-number-items.result.now in
    let i = c.loop-number.number-index in
    let at = viewed said_view c.args.rules.now (get_or numbers i 0) c.get.result c.get.ensures.lookup in
    elim c.match-get.branch [
      | in-Some+in_ok-push w ↦ rw (w.named-is, w.in_ok-push.ensures.items)
          (rule_picked all numbers i c.loop-number-test.true c.get.result at c.loop-number.named.items w.in-Some.rule w.in-Some.is c.loop-number.invariant)
      | in_default w ↦ rw w.named-is (none_picked all numbers i c.loop-number-test.true c.get.result at c.loop-number.named.items w.in_default.is c.loop-number.invariant)
    ]

pub returns : goal.returns
returns c =
    let all = map said_view c.args.rules.now in
    let name = c.args.name.now in
    let numbers = c.rules-number-items.result.now in
    let past = c.loop-number-test.false in
    let named = rules_view c.loop-number.named.items in
    let none : drop c.loop-number.number-index numbers ≡ [] = drop_all c.loop-number.number-index numbers (omega (arith, past)) in
    sym (ap (λ (ns : List ℕ). named ++ picked all ns) none ∙ append-nil named) ∙ c.loop-number.invariant
    ∙ ap (picked all) (c.rules-number-items.ensures ∙ c.requires name) ∙ picked_all name all
