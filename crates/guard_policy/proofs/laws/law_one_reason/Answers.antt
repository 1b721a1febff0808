use Rattle.std.proofs.Common.{refl, sym, inl}
use Rattle.guard_model.specs.TypeView.{type_view}
use Rattle.guard_policy.specs.PolicyView.{policy_view, route_view}
use Rattle.guard_policy.specs.Verdicts.{unknown_message}
use Rattle.guard_policy.proofs.Applicable.{declared_sound}
use Rattle.guard_policy.proofs.Goes.{passes_from_goes, goes_from_passes}
use Rattle.guard_policy.proofs.OneReason.{some_reason, one_reason}
use Rattle.guard_policy.proofs.laws.law_one_reason.Goals as goal

pub law_one_answer-requires : goal.law_one_answer-requires
law_one_answer-requires c =
    declared_sound (policy_view c.args.policy.now).messages (policy_view c.args.policy.now).rules c.args.route.now.message.now (type_view c.in-Some.ty.now)
    c.args.policy.now.kept.consistent (sym c.in-Some.ensures)

pub returns-in_default-clause-some : goal.returns-in_default-clause-some
returns-in_default-clause-some c = let none = rw c.in_default.is at c.declared.ensures in (unknown_message, inl (sym none, refl))

pub returns-in_default-clause-one : goal.returns-in_default-clause-one
returns-in_default-clause-one c = λ v w p q. one_reason (policy_view c.args.policy.now) (route_view c.args.route.now) c.args.octets.now v w c.args.policy.now.kept.consistent p q

pub returns-in_default-clause-passes : goal.returns-in_default-clause-passes
returns-in_default-clause-passes c = (
  goes_from_passes (policy_view c.args.policy.now) (route_view c.args.route.now) c.args.octets.now,
  passes_from_goes (policy_view c.args.policy.now) (route_view c.args.route.now) c.args.octets.now,
)

pub returns-clause-some : goal.returns-clause-some
returns-clause-some c =
    some_reason (policy_view c.args.policy.now) (route_view c.args.route.now) c.args.octets.now (type_view c.in-Some.ty.now) (sym c.in-Some.ensures) c.law_one_answer.ensures.one

pub returns-clause-one : goal.returns-clause-one
returns-clause-one c = λ v w p q. one_reason (policy_view c.args.policy.now) (route_view c.args.route.now) c.args.octets.now v w c.args.policy.now.kept.consistent p q

pub returns-clause-passes : goal.returns-clause-passes
returns-clause-passes c = (
  goes_from_passes (policy_view c.args.policy.now) (route_view c.args.route.now) c.args.octets.now,
  passes_from_goes (policy_view c.args.policy.now) (route_view c.args.route.now) c.args.octets.now,
)
