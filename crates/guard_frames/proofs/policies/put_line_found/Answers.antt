use Rattle.std.proofs.Common.{ap, sym, subst, ◌∙◌}
use Rattle.std.specs.Prelude.{IfSome}
use Rattle.guard_policy.specs.Policies.{AbstractRoute}
use Rattle.guard_policy.specs.PolicyView.{policy_view}
use Rattle.guard_policy.specs.Verdicts.{AbstractVerdict, verdict_view, reason_view}
use Rattle.guard_policy.specs.Decisions.{IsReason}
use Rattle.guard_policy.specs.Told.{IsToldReason}
use Rattle.guard_policy.proofs.Goes.{goes_from_passes}
use Rattle.guard_report.specs.Lines.{line_octets}
use Rattle.guard_frames.specs.Bodies.{body_view}
use Rattle.guard_frames.specs.OfPolicy.{route_of}
use Rattle.guard_frames.proofs.policies.put_line_found.Goals as goal

pub reason_as_told-requires : goal.reason_as_told-requires
reason_as_told-requires c =
    let b = body_view c.args.body.now in
    subst (λ (r : AbstractRoute). IfSome c.args.told (λ x. IsToldReason (policy_view c.args.policy.now) r b.message_octets (reason_view x)))
    (sym c.route_of-route.ensures) c.requires.told

pub reason_of-requires : goal.reason_of-requires
reason_of-requires c = λ passes.
    let p = policy_view c.args.policy.now in
    let b = body_view c.args.body.now in
    c.requires.stays (goes_from_passes p (route_of b) b.message_octets
    (subst (λ (w : AbstractVerdict). IsReason p (route_of b) b.message_octets w) passes
    (subst (λ (r : AbstractRoute). IsReason p r b.message_octets (verdict_view c.in_ok-verdict.verdict)) c.route_of-route.ensures c.in_ok-verdict.ensures)))

pub returns-clause-reports : goal.returns-clause-reports
returns-clause-reports c =
    let p = policy_view c.args.policy.now in
    let b = body_view c.args.body.now in
    let w = verdict_view c.in_ok-verdict.verdict in (
      w,
      subst (λ (r : AbstractRoute). IsReason p r b.message_octets w) c.route_of-route.ensures c.in_ok-verdict.ensures,
      rw c.clear.ensures.items at c.in_ok-add_line.ensures ∙ ap (λ (r : AbstractRoute). line_octets p r c.args.number w) c.route_of-route.ensures,
    )

pub returns-clause-gives : goal.returns-clause-gives
returns-clause-gives c =
    let p = policy_view c.args.policy.now in
    let b = body_view c.args.body.now in
    let w = verdict_view c.in_ok-verdict.verdict in (
      c.args.number,
      b,
      w,
      c.requires.names,
      subst (λ (r : AbstractRoute). IsReason p r b.message_octets w) c.route_of-route.ensures c.in_ok-verdict.ensures,
      c.reason_of.ensures,
      rw c.clear.ensures.items at c.in_ok-add_line.ensures ∙ ap (λ (r : AbstractRoute). line_octets p r c.args.number w) c.route_of-route.ensures,
    )
