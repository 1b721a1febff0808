use Rattle.std.proofs.Common.{◌≡◌, ◌++◌, map, take}
use Rattle.std.specs.List.{concat}
use Rattle.guard_streams.specs.Counters.{count_view, rule_line}
use Rattle.guard_streams.proofs.counters_text.add_rules.Given as goal

-- the lines so far
abbrev pub invariant-loop-rule : goal.invariant-loop-rule
invariant-loop-rule l =
    l.text.items
    ≡ l.initial.text.items ++ concat (map (rule_line l.denies l.name) (map count_view (take l.rule-index l.rules)))
