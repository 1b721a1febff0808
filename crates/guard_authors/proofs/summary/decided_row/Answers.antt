use Rattle.std.proofs.Common.{refl, subst}
use Rattle.guard_policy.specs.Decisions.{IsReason}
use Rattle.guard_policy.specs.Policies.{AbstractRoute}
use Rattle.guard_policy.specs.PolicyView.{policy_view, route_view}
use Rattle.guard_policy.specs.Told.{IsAllowedBy}
use Rattle.guard_policy.specs.Verdicts.{verdict_view}
use Rattle.guard_policy.proofs.Goes.{goes_from_passes}
use Rattle.guard_authors.proofs.summary.decided_row.Goals as goal

pub returns-in-Goes : goal.returns-in-Goes
returns-in-Goes c = subst (λ (r : AbstractRoute). IsAllowedBy (policy_view c.args.policy.now) r c.args.body.now.message_octets.now c.in-Goes.rule)
    c.route_of-route.ensures c.in-Goes.ensures

pub reason_as_told-requires : goal.reason_as_told-requires
reason_as_told-requires c = c.in-Stopped.ensures.1

pub reason_of-requires : goal.reason_of-requires
reason_of-requires c = λ passes.
    c.in-Stopped.ensures.0
    (goes_from_passes (policy_view c.args.policy.now) (route_view c.route_of-route.result) c.args.body.now.message_octets.now
    (rw passes at c.in_ok-verdict-in-Stopped.ensures))

pub returns-in_ok-verdict-in-Stopped : goal.returns-in_ok-verdict-in-Stopped
returns-in_ok-verdict-in-Stopped c =
    let w = verdict_view c.in_ok-verdict-in-Stopped.verdict in (
      w,
      c.reason_of.result,
      subst (λ (r : AbstractRoute). IsReason (policy_view c.args.policy.now) r c.args.body.now.message_octets.now w)
          c.route_of-route.ensures c.in_ok-verdict-in-Stopped.ensures,
      c.reason_of.ensures,
      refl,
    )
