use Rattle.guard_policy.specs.PolicyView.{policy_view, route_view}
use Rattle.guard_files.proofs.FoundValues.{pass_has_value}
use Rattle.guard_authors.proofs.reached.reached.Goals as goal

pub allowing_octets-requires : goal.allowing_octets-requires
allowing_octets-requires c = pass_has_value (policy_view c.args.policy.now) (route_view c.args.route.now) c.args.octets.now (rw c.in-Pass.is at c.requires)
