use Rattle.std.specs.Prelude.{option_map}
use Rattle.guard_policy.specs.Policies.{AbstractRoute}
use Rattle.guard_policy.specs.PolicyView.{route_view}
use Rattle.guard_c.specs.Holding.{policy_of}
use Rattle.guard_c.proofs.Naming.{said_plain}
use Rattle.guard_c.proofs.policies.derguard_verdict_from.Goals as goal

pub returns-clause-answer : goal.returns-clause-answer
returns-clause-answer c =
    let route : AbstractRoute = record { from = c.args.sender.now; to = c.args.receiver.now; message = c.args.name.now } in
    let told = c.verdict_on.ensures.told in
    let says = said_plain (policy_of c.args.policy.now.kept) route c.args.message.now (option_map route_view c.route_of-route.result) told.0 c.route_of-route.ensures told.1 in
    (c.verdict_on.result, c.number.ensures, (told.0, says, told.2))
