use Rattle.guard_policy.specs.PolicyView.{policy_view}
use Rattle.guard_frames.proofs.BodyDecisions.{decided_as_given, decided_as_recalled}
use Rattle.guard_frames.proofs.policies.PolicyDecide.goes.Goals as goal

pub returns-in-Some-clause-decided : goal.returns-in-Some-clause-decided
returns-in-Some-clause-decided c =
    let found = c.in-Some.ensures in
    decided_as_given (policy_view c.args.self.now) c.args.octets.now found.1 found.2 c.in-Some.told c.decided.result found.3 (found.0, found.4, found.5)
    c.decided.ensures

pub returns-in-Some-clause-recalls : goal.returns-in-Some-clause-recalls
returns-in-Some-clause-recalls c = c.requires

pub returns-in-Some-found-clause-decided : goal.returns-in-Some-found-clause-decided
returns-in-Some-found-clause-decided c =
    let found = c.in-Some-found.ensures in
    decided_as_recalled (policy_view c.args.self.now) c.args.octets.now found.0 c.in-Some-found.message.now c.in-Some-found.found.now c.args.last.now c.look_at.result
    c.decided-in-Some-found.result c.requires found.1 found.2 c.look_at.ensures c.decided-in-Some-found.ensures

pub returns-in-Some-found-clause-recalls : goal.returns-in-Some-found-clause-recalls
returns-in-Some-found-clause-recalls c = c.requires
