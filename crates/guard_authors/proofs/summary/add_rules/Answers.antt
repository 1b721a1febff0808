use Rattle.std.proofs.Common.{arith, refl, sym}
use Rattle.guard_policy.specs.PolicyView.{policy_view, said_view}
use Rattle.guard_files.proofs.AllowingLaws.{none_of, past_all}
use Rattle.guard_authors.specs.Summary.{lines_of, rule_line}
use Rattle.guard_authors.specs.inside.Counting.{count_at}
use Rattle.guard_authors.proofs.ListingLaws.{one_told}
use Rattle.guard_authors.proofs.SummaryLines.{line_added}
use Rattle.guard_authors.proofs.summary.add_rules.Goals as goal

pub unreachable-requires : goal.unreachable-requires
unreachable-requires c =
    none_of (policy_view c.args.policy.now).rules c.loop-number.number (sym (rw c.in_default.is at c.rule.ensures))
    (omega (arith, c.loop-number-test.true, c.rules-number-end.ensures))

pub loop-number-preserved : goal.loop-number-preserved
loop-number-preserved c =
    let i = c.loop-number.number in
    let often = count_at c.args.counts.now in
    rw (c.in_ok-add_count.ensures, c.in_ok-add_said.ensures, c.count_at.ensures, line_added c.loop-number.text.items (often i) (said_view c.in-Some.rule))
    (one_told (lines_of rule_line often i) (policy_view c.args.policy.now).rules i (said_view c.in-Some.rule) _ _ _ _ (sym c.in-Some.ensures)
    refl c.loop-number.invariant)

pub returns : goal.returns
returns c =
    let i = c.loop-number.number in
    past_all (lines_of rule_line (count_at c.args.counts.now) i) (policy_view c.args.policy.now).rules i _ _ refl
    (omega (arith, c.loop-number-test.false, c.rules-number-end.ensures)) c.loop-number.invariant
