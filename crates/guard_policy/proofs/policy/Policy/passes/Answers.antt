use Rattle.guard_policy.specs.PolicyView.{policy_view, route_view}
use Rattle.guard_policy.proofs.Looks.{tells_exactly}
use Rattle.guard_policy.proofs.policy.Policy.passes.Goals as goal

pub returns : goal.returns
returns c =
    rw c.goes.ensures
    (tells_exactly (policy_view c.args.self.now) (route_view c.args.route.now) c.args.octets.now c.look_at.result c.look_at.ensures)
