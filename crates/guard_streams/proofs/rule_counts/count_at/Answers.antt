use Rattle.std.proofs.Common.{◌<◌, ◌≤◌, length, map, sym, arith}
use Rattle.guard_streams.proofs.Rules.{none_more, counted_at}
use Rattle.guard_streams.proofs.rule_counts.count_at.Goals as goal

pub returns-then-number-len : goal.returns-then-number-len
returns-then-number-len c =
    let kept = c.args.rules.now.ok.0 in
    let past : length c.args.rules.now.items ≤ c.args.number = omega (arith, c.if-number-len.true, c.len.ensures, kept) in
    sym (none_more c.args.rules.now.items c.args.number c.args.more past)

pub returns : goal.returns
returns c =
    let kept = c.args.rules.now.ok.0 in
    let inside : c.args.number < length c.args.rules.now.items = omega (arith, c.if-number-len.false, c.len.ensures, kept) in
    counted_at c.args.rules.now.items c.args.number c.index_mut-rule.result.now c.args.more c.saturating_add-rule.result inside c.index_mut-rule.ensures.value
    c.saturating_add-rule.ensures
