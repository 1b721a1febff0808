use Rattle.guard_policy.proofs.policy.Policy.load.Goals as goal

pub returns-clause-loads : goal.returns-clause-loads
returns-clause-loads g c = c.policy_of.ensures.loads c.args.text.now c.in_ok-top.ensures.document

pub returns-clause-only : goal.returns-clause-only
returns-clause-only g c = λ p said. c.policy_of.ensures.only c.args.text.now p c.in_ok-top.ensures.document said

pub returns-clause-refused : goal.returns-clause-refused
returns-clause-refused g c = c.policy_of.ensures.refused c.args.text.now c.in_ok-top.ensures.document
