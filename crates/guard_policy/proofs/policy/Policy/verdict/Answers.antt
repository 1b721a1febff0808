use Rattle.std.proofs.Common.{◌≡◌, ◌↔◌, refl}
use Rattle.guard_policy.specs.PolicyView.{policy_view, route_view}
use Rattle.guard_policy.specs.Verdicts.{verdict_view, pass}
use Rattle.guard_policy.specs.Decisions.{IsReason, Goes}
use Rattle.guard_policy.proofs.Goes.{passes_from_goes}
use Rattle.guard_policy.proofs.Reasons.{if_ok_map}
use Rattle.guard_policy.proofs.OneReason.{one_reason, passes_exactly}
use Rattle.guard_policy.proofs.policy.Policy.verdict.Goals as goal

pub returns-in-Goes-clause-reason : goal.returns-in-Goes-clause-reason
returns-in-Goes-clause-reason c =
    passes_from_goes (policy_view c.args.self.now) (route_view c.args.route.now) c.args.octets.now c.in-Goes.ensures.0

pub returns-in-Goes-clause-only : goal.returns-in-Goes-clause-only
returns-in-Goes-clause-only c = λ w other.
    let p = policy_view c.args.self.now in
    let route = route_view c.args.route.now in
    let octets = c.args.octets.now in
    one_reason p route octets pass w c.args.self.now.kept.consistent (passes_from_goes p route octets c.in-Goes.ensures.0) other

pub returns-in-Goes-clause-passes : goal.returns-in-Goes-clause-passes
returns-in-Goes-clause-passes c = (λ is. c.in-Goes.ensures.0, λ goes. refl)

pub reason_as_told-requires : goal.reason_as_told-requires
reason_as_told-requires c = c.in-Stopped.ensures.1

pub returns-in-Stopped-clause-only : goal.returns-in-Stopped-clause-only
returns-in-Stopped-clause-only c = λ w other.
    let p = policy_view c.args.self.now in
    let route = route_view c.args.route.now in
    let octets = c.args.octets.now in
    if_ok_map (λ x. IsReason p route octets (verdict_view x)) (λ x. verdict_view x ≡ w) c.reason_as_told.result
    (λ x reason. one_reason p route octets (verdict_view x) w c.args.self.now.kept.consistent reason other) c.reason_as_told.ensures

pub returns-in-Stopped-clause-passes : goal.returns-in-Stopped-clause-passes
returns-in-Stopped-clause-passes c =
    let p = policy_view c.args.self.now in
    let route = route_view c.args.route.now in
    let octets = c.args.octets.now in
    if_ok_map (λ x. IsReason p route octets (verdict_view x)) (λ x. (verdict_view x ≡ pass) ↔ Goes p route octets) c.reason_as_told.result
    (λ x reason. passes_exactly p route octets (verdict_view x) c.args.self.now.kept.consistent reason) c.reason_as_told.ensures
