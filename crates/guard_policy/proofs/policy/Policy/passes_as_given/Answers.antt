use Rattle.guard_policy.specs.PolicyView.{policy_view}
use Rattle.guard_policy.proofs.Looks.{tells_exactly}
use Rattle.guard_policy.proofs.policy.Policy.passes_as_given.Goals as goal

pub returns-clause-given : goal.returns-clause-given
returns-clause-given c =
    let found = c.in_ok-told.ensures.given in
    rw c.goes.ensures
    (found.0, found.1, tells_exactly (policy_view c.args.self.now) found.0 c.args.octets.now c.in_ok-told.told found.2)
