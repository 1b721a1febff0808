use Rattle.std.proofs.Common.{◌∙◌, ◌++◌, ℕ, List, ap, refl, map, append_assoc}
use Rattle.std.specs.List.{concat}
use Rattle.std.proofs.lemmas.List.{take_all}
use Rattle.guard_files.proofs.TextsJoined.{one_text_more}
use Rattle.guard_streams.specs.declared.rule_counts.RuleCount.{RuleCount}
use Rattle.guard_streams.specs.Counters.{count_view, rule_line}
use Rattle.guard_streams.proofs.counters_text.add_rules.Goals as goal

pub loop-rule-preserved : goal.loop-rule-preserved
loop-rule-preserved c =
    let line = rule_line c.args.denies c.args.name.now in
    c.in_ok-add_rule.ensures
    ∙ ap (λ (s : List ℕ). s ++ line (count_view c.rule-item.result)) c.loop-rule.invariant
    ∙ one_text_more line count_view c.add_heading.new.text.items c.args.rules.now c.args.rules.now c.loop-rule.rule-index c.rule-item.result
    (count_view c.rule-item.result) refl c.rule-item.is refl c.loop-rule-test.true

pub returns : goal.returns
returns c =
    let front = c.add_heading.new.text.items in
    let line = rule_line c.args.denies c.args.name.now in
    let lines = concat (map line (map count_view c.args.rules.now)) in
    c.loop-rule.invariant
    ∙ ap (λ (rules : List RuleCount). front ++ concat (map line (map count_view rules))) (take_all c.loop-rule.rule-index c.args.rules.now c.loop-rule-test.false)
    ∙ ap (λ (s : List ℕ). s ++ lines) c.in_ok-add_heading.ensures
    ∙ append_assoc c.args.text.now.items _ lines
