use Rattle.guard_policy.proofs.policy.Policy.look_at.Goals as goal

pub returns : goal.returns
returns c = c.find_route.ensures c.args.octets.now c.look_at.result c.look_at.ensures
