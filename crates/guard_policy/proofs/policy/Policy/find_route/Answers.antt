use Rattle.std.proofs.Common.{sym, subst}
use Rattle.guard_policy.specs.PolicyView.{policy_view, route_view}
use Rattle.guard_policy.specs.Told.{Tells}
use Rattle.guard_policy.proofs.ByMarks.{tells}
use Rattle.guard_policy.proofs.Looks.{undeclared_stays}
use Rattle.guard_policy.proofs.policy.Policy.find_route.Goals as goal

pub returns-in_default : goal.returns-in_default
returns-in_default c = λ octets told is.
    subst (Tells (policy_view c.args.self.now) (route_view c.args.route.now) octets) (sym is)
    (undeclared_stays (policy_view c.args.self.now) (route_view c.args.route.now) octets c.in_default.ensures.listed)

pub returns : goal.returns
returns c = λ octets told is.
    tells c.args.self.now (route_view c.args.route.now) octets c.in-Some.field-0-1.now c.in-Some.message.now
    c.in-Some.ensures.listed c.in-Some.ensures.first c.rules-rules.result told c.rules-rules.ensures is
