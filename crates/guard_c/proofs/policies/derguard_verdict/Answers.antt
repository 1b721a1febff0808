use Rattle.std.specs.Prelude.{option_map}
use Rattle.guard_policy.specs.PolicyView.{route_view}
use Rattle.guard_c.specs.Holding.{policy_of}
use Rattle.guard_c.proofs.Naming.{said_read}
use Rattle.guard_c.proofs.policies.derguard_verdict.Goals as goal

pub returns-clause-answer : goal.returns-clause-answer
returns-clause-answer c =
    let told = c.verdict_on.ensures.told in
    let says = said_read (policy_of c.args.policy.now.kept) c.args.names.now c.args.message.now (option_map route_view c.route_in.result) told.0 c.route_in.ensures told.1 in
    (c.verdict_on.result, c.number.ensures, (told.0, says, told.2))
