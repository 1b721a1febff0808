use Rattle.std.proofs.Common.{Option, sym, subst}
use Rattle.guard_policy.specs.PolicyView.{policy_view, route_view}
use Rattle.guard_policy.specs.Verdicts.{AbstractVerdict}
use Rattle.guard_policy.specs.Told.{IsToldReason}
use Rattle.guard_policy.proofs.policy.Policy.reason_as_told.Goals as goal

pub returns-in-Some-verdict : goal.returns-in-Some-verdict
returns-in-Some-verdict c =
    subst (λ (o : Option AbstractVerdict). IsToldReason (policy_view c.args.self.now) (route_view c.args.route.now) c.args.octets.now o)
    (sym (rw c.in-Some-verdict.is at c.verdict.ensures)) (rw c.in-Some.is at c.requires)

pub reason_by_value-requires : goal.reason_by_value-requires
reason_by_value-requires c = λ is.
    subst (λ (o : Option AbstractVerdict). IsToldReason (policy_view c.args.self.now) (route_view c.args.route.now) c.args.octets.now o)
    (sym (rw c.in-None-verdict.is at c.verdict.ensures)) (rw c.in-Some.is at c.requires)
