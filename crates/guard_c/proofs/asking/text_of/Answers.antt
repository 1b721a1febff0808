use Rattle.std.proofs.Common.{◌≡◌}
use Rattle.guard_policy.specs.PolicyView.{policy_view, route_view}
use Rattle.guard_policy.specs.Verdicts.{verdict_view}
use Rattle.guard_policy.proofs.Reasons.{if_ok_map}
use Rattle.guard_report.specs.Text.{verdict_octets}
use Rattle.guard_c.specs.Asking.{SaysOf}
use Rattle.guard_c.proofs.asking.text_of.Goals as goal

pub returns : goal.returns
returns c =
    let p = policy_view c.args.policy.now in
    let route = route_view c.args.route.now in
    let w = verdict_view c.in_ok-verdict.verdict in
    if_ok_map (λ text. text.items ≡ verdict_octets p route w) (λ text. SaysOf p route c.args.message.now text.items) c.verdict_text.result
    (λ text e. (w, c.in_ok-verdict.ensures.reason, e)) c.verdict_text.ensures
