use Rattle.std.proofs.lemmas.Result.{on_ok_weaker}
use Rattle.guard_policy.specs.PolicyView.{policy_view}
use Rattle.guard_authors.proofs.SummaryLines.{policy_added}
use Rattle.guard_authors.proofs.summary.add_policy.Goals as goal

pub returns : goal.returns
returns c =
    on_ok_weaker c.add_reasons.result
    (policy_added (policy_view c.args.policy.now) c.args.text.now.items c.add_rules.new.text.items c.add_reasons.new.text.items
    c.deref.result.now c.args.counts.now.rules.items c.deref-2.result.now c.args.counts.now.reasons.items c.deref.ensures.value
    c.deref-2.ensures.value c.in_ok-add_rules.ensures) c.add_reasons.ensures
