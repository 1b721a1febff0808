use Rattle.guard_model.specs.TypeView.{type_view}
use Rattle.guard_model.specs.ValueView.{value_view}
use Rattle.guard_policy.specs.PolicyView.{policy_view, route_view}
use Rattle.guard_policy.proofs.Applicable.{applicable_from_consistent}
use Rattle.guard_files.proofs.allowed.allowing_octets.Goals as goal

pub allowing-requires : goal.allowing-requires
allowing-requires c =
    let p = policy_view c.args.policy.now in
    let found = c.in_ok-value.ensures in
    applicable_from_consistent p.messages p.rules (route_view c.args.route.now) (type_view c.in_ok-value.field-0-0.now) (value_view c.in_ok-value.value) c.args.policy.now.kept.consistent found.0 found.1
