use Rattle.guard_policy.proofs.leads.Leads.find_at.Goals as goal

pub returns : goal.returns
returns c = (c.in_ok-route.route.now.octets.items, c.in_ok-rest.ensures, c.in_ok-route.ensures.value)
